use Rattle.pipeline.specs.Channels.{channel_over}
use Rattle.writer.specs.Admits.{refusal_for, lengths_of}
use Rattle.writer.specs.Calls.{site_of}
use Rattle.writer.specs.Views.{view_of}
use Rattle.writer.specs.declared.admit.Call.TheVariants as call
use Rattle.runs.specs.Answered.{set_in}
use Rattle.runs.specs.History.{wrote, heard, rebuilt}
use Rattle.runs.specs.Runs.{own, writes, heeds, beats, finishes, recovers}
use Rattle.runs.proofs.client.call.Goals as goal

pub returns-in-Write : goal.returns-in-Write
returns-in-Write g c h =
    let a = c.args in
    (wrote h c.in-Write.bytes.now c.write.result, rw c.in-Write.is (writes c.in-Write.bytes a.store.now c.write.new.store a.frame.now c.write.new.frame a.request.now a.answer.now c.write.new.store c.write.result c.write.new.self c.write.new.link own c.write.ensures))

pub returns-in-Heed : goal.returns-in-Heed
returns-in-Heed g c h =
    let a = c.args in
    (heard h (g.C.Chain.seen a.link.now).pending (g.C.Chain.seen c.heed.new.link).pending c.heed.result, rw c.in-Heed.is (heeds a.store.now a.frame.now a.request.now a.answer.now c.heed.new.answer a.store.now c.heed.result c.heed.new.self c.heed.new.link own c.heed.ensures))

pub returns-in-Beat : goal.returns-in-Beat
returns-in-Beat g c h =
    let a = c.args in
    (h, rw c.in-Beat.is (beats c.in-Beat.time a.store.now a.frame.now c.beat.new.frame a.request.now a.answer.now a.store.now c.beat.result c.beat.new.self c.beat.new.link own c.beat.ensures))

pub returns-in-Finish : goal.returns-in-Finish
returns-in-Finish g c h =
    let a = c.args in
    (h, rw c.in-Finish.is (finishes a.store.now a.frame.now c.finish.new.frame a.request.now a.answer.now a.store.now c.finish.result c.finish.new.self c.finish.new.link own c.finish.ensures))

pub returns-in-Recover : goal.returns-in-Recover
returns-in-Recover g c h =
    let a = c.args in
    let o = refusal_for (view_of a.writer.now) call.Recover (lengths_of a.store.now a.frame.now a.request.now a.answer.now) in
    let s = site_of a.writer.now a.store.now a.frame.now (channel_over a.link.now a.request.now a.answer.now) a.namenode.now in
    let t = site_of c.recover.new.self a.store.now c.recover.new.frame (channel_over c.recover.new.link c.recover.new.request c.recover.new.answer) c.recover.new.namenode in
    let set = set_in g.C.Link g.N.NamenodeProtocol c.in-Recover.time c.recover.result t o s c.recover.ensures in
    (rebuilt h set, rw c.in-Recover.is (recovers c.in-Recover.time a.store.now a.frame.now c.recover.new.frame a.request.now c.recover.new.request a.answer.now c.recover.new.answer a.store.now c.recover.result c.recover.new.self c.recover.new.link c.recover.new.namenode own c.recover.ensures))
