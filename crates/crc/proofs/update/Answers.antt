-- A block, or a byte, takes the register on; past the end nothing is left.
-- Assumes nothing.
use Rattle.std.proofs.Common.{◌≡◌, ◌+◌, ◌-◌, ◌*◌, ◌%◌, length, drop, sym, ap, ◌∙◌, arith}
use Rattle.std.proofs.lemmas.List.{drop-drop, drop_at, length-append, length-drop}
use Rattle.std.specs.Slice.Iter.{chunks_exact_rest, chunks_exact_size}
use Rattle.crc.specs.Crc.{after}
use Rattle.crc.proofs.Linear.{after_append}
use Rattle.crc.proofs.Slices.{byte_more, none_more}
use Rattle.crc.proofs.update.Goals as goal

pub loop-block-init : goal.loop-block-init
loop-block-init g c =
    let left = ap chunks_exact_rest c.into_iter-block-iterator.ensures.into_iter_gives ∙ c.chunks_exact-blocks.ensures.rest in (
      0,
      record {
        size = ap chunks_exact_size c.into_iter-block-iterator.ensures.into_iter_gives ∙ c.chunks_exact-blocks.ensures.size;
        left = left;
        within = omega arith;
        value = ap (after g.P.Polynomial.poly c.args.crc) left;
      },
    )

pub loop-block-preserved : goal.loop-block-preserved
loop-block-preserved g c =
    let i = c.loop-block.invariant in
    let s = c.in-Some.ensures.steps in
    let long : length c.in-Some.block.now ≡ 16 = s.1.1 ∙ i.1.size in
    let all = sym s.1.0 ∙ i.1.left in
    let next : 16 * i.0 + 16 ≡ 16 * (i.0 + 1) = omega arith in (
      i.0 + 1,
      record {
        size = s.0 ∙ i.1.size;
        left = sym (drop_at c.in-Some.block.now _ 16 long) ∙ ap (drop 16) all ∙ drop-drop 16 (16 * i.0) c.args.bytes.now ∙ ap (λ n. drop n c.args.bytes.now) next;
        within = omega (arith, ap length all, length-append c.in-Some.block.now (chunks_exact_rest c.next.new.self), length-drop (16 * i.0) c.args.bytes.now);
        value = ap (λ v. after g.P.Polynomial.poly v (chunks_exact_rest c.next.new.self)) c.after_block-v.ensures
            ∙ sym (after_append g.P.Polynomial.poly c.loop-block.v c.in-Some.block.now (chunks_exact_rest c.next.new.self))
            ∙ ap (after g.P.Polynomial.poly c.loop-block.v) (sym s.1.0)
            ∙ i.1.value;
      },
    )

pub loop-byte-init : goal.loop-byte-init
loop-byte-init g c =
    let i = c.loop-block.invariant in
    let s = c.in-None.ensures.steps in
    let n = length c.args.bytes.now in
    let at : n - n % 16 ≡ 16 * i.0 = omega (arith, i.1.size, ap length i.1.left, length-drop (16 * i.0) c.args.bytes.now, s.1.0) in
    ap (after g.P.Polynomial.poly c.loop-block.v) (c.remainder-rest.ensures ∙ c.chunks_exact-blocks.ensures.remainder ∙ ap (λ n. drop n c.args.bytes.now) at ∙ sym i.1.left) ∙ i.1.value

pub loop-byte-preserved : goal.loop-byte-preserved
loop-byte-preserved g c =
    let e = byte_more g.P.Polynomial.poly c.loop-byte.v c.loop-byte.byte-index c.remainder-rest.result.now (omega arith) in cc

pub returns : goal.returns
returns g c =
    sym (none_more g.P.Polynomial.poly c.loop-byte.v c.loop-byte.byte-index c.remainder-rest.result.now (omega arith)) ∙ c.loop-byte.invariant
