use Rattle.std.proofs.Common.{refl, arith}
use Rattle.runs.specs.History.{History}
use Rattle.runs.specs.Runs.{point_of}
use Rattle.runs.proofs.Clients.{begin, more, made}
use Rattle.runs.proofs.Every.{every}
use Rattle.runs.proofs.client.run.Goals as goal

pub calls-init : goal.calls-init
calls-init g c h = begin g.C.Link g.N.NamenodeProtocol g.C.Chain.seen c.args.commands.now c.args.outcomes.now h
    (λ (k : History). point_of k c.args.writer.now c.args.store.now c.args.link.now c.args.namenode.now)

pub calls-preserved : goal.calls-preserved
calls-preserved g c h = more g.C.Link g.N.NamenodeProtocol g.C.Chain.seen c.args.commands.now c.args.outcomes.now
    (point_of h c.args.writer.now c.args.store.now c.args.link.now c.args.namenode.now) c.calls.i
    (λ (k : History). point_of k c.calls.writer c.calls.store c.calls.link c.calls.namenode)
    (λ (k : History). point_of k c.call-outcome.new.writer c.call-outcome.new.store c.call-outcome.new.link c.call-outcome.new.namenode)
    c.calls.outcomes _ _ c.call-outcome.result (c.calls.invariant h) (omega (arith, c.min-i-end.ensures)) refl (omega (arith, c.min-i-end.ensures)) c.call-outcome.ensures

pub returns : goal.returns
returns g c h =
    let m = g.met.C.Chain in
    let n = g.met.N.Namenode in
    made g.C.Link g.N.NamenodeProtocol g.C.Chain.seen c.args.commands.now c.args.outcomes.now g.N.Namenode.entry
    (every g.C.Link g.N.NamenodeProtocol g.C.Chain.seen g.N.Namenode.entry
    (record { setting = m.setting; putting = m.putting; answering = m.answering; transferring = m.transferring })
    (record { listing = n.listing; stamping = n.stamping; updating = n.updating }))
    (point_of h c.args.writer.now c.args.store.now c.args.link.now c.args.namenode.now) c.calls.i
    (λ (k : History). point_of k c.calls.writer c.calls.store c.calls.link c.calls.namenode) c.calls.outcomes (omega (arith, c.min-i-end.ensures)) (c.calls.invariant h)
