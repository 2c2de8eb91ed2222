use Rattle.std.proofs.Common.{◌≡◌, ℕ, ◌-◌, take, replicate, ap, ◌∙◌, subst, arith}
use Rattle.std.proofs.lemmas.List.{take-replicate}
use Rattle.ack.specs.Written.{answered}
use Rattle.spool.proofs.calls.write_good.Goals as goal

pub returns : goal.returns
returns c =
    let n = c.args.nodes in
    let all : n - 0 ≡ n = omega arith in
    let z : take {A = ℕ} (n - 0) (replicate 8 0) ≡ replicate n 0 = ap (λ m. take {A = ℕ} m (replicate 8 0)) all ∙ take-replicate n 8 0 c.requires in
    subst (λ replies. answered c.args.seqno replies c.args.answer.now c.write_ack.new.out c.write_ack.result) z c.write_ack.ensures
