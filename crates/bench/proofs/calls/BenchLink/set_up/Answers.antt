use Rattle.std.proofs.Common.{◌≡◌, ◌-◌, ◌≤◌, Ok, Some, length, take, replicate, ap, sym, ◌∙◌, arith}
use Rattle.std.proofs.lemmas.List.{length-take, take-take}
use Rattle.std.proofs.lemmas.Result.{IfOk-at_ok}
use Rattle.request.specs.Setups.{setup_of}
use Rattle.spool.specs.Spools.{spool_view}
use Rattle.bench.specs.Replicas.{mirrored}
use Rattle.bench.specs.Mirrors.{mirrored_new, set_bytes}
use Rattle.bench.proofs.calls.BenchLink.set_up.Goals as goal

pub invariant_of-self-2 : goal.invariant_of-self-2
invariant_of-self-2 c =
    let s = c.args.self.now.lead in
    let v = spool_view s in
    let least = c.args.least in
    let w = spool_view c.set_up.new.self in
    let ok : c.copies_of.result ≡ Ok c.in_ok-mirrors.mirrors = grind arith in
    let made = IfOk-at_ok _ ok c.copies_of.ensures in
    let setup : Some c.in_ok-setup.setup ≡ setup_of c.args.request.now = sym c.in_ok-setup.ensures.ok_part ∙ c.read.ensures in
    let bytes = set_bytes (setup_of c.args.request.now) c.in_ok-setup.setup v least w setup c.in_ok-len.ensures.1.1.1 in
    let enough : least ≤ v.kept = omega (arith, c.if-least-kept.false, ap length c.kept-kept.ensures, length-take v.kept v.bytes) in
    let all : least - 0 ≡ least = omega arith in
    let part = ap (λ z. take (least - 0) z) c.kept-kept.ensures ∙ ap (λ n. take n (take v.kept v.bytes)) all ∙ take-take least v.kept v.bytes enough in
    record { same = (λ i. mirrored (bytes i) (made i)) ∙ ap (λ z. mirrored (take least v.bytes) (replicate (c.in_ok-setup.setup.pipeline_size - 1) z)) part ∙ mirrored_new _ (take least v.bytes) }
