use Rattle.std.proofs.Common.{ℕ, ◌*◌, ◌^◌, cond, ltb, Some, None, sym, ap, ◌∙◌, arith}
use Rattle.packet.proofs.Chunks.{count_is, none_to_sum, some_if}
use Rattle.packet.proofs.sums.sums_len.Goals as goal

pub returns-then-data_len-eq0 : goal.returns-then-data_len-eq0
returns-then-data_len-eq0 c =
    sym (ap (λ (n : ℕ). cond (ltb (4 * n) (2 ^ 64)) (Some (4 * n)) None) (none_to_sum c.args.chunk_size c.args.data_len c.then-data_len-eq0.either))

pub returns : goal.returns
returns c =
    let count = c.div_ceil.ensures ∙ count_is c.args.chunk_size c.args.data_len c.if-chunk_size-eq0.false in
    some_if c.checked_mul.result (c.div_ceil.result * 4) _ (2 ^ 64) (omega (arith, count)) c.checked_mul.ensures
