use Rattle.std.proofs.Common.{◌≡◌, inl, inr, length, sym, ap, ◌∙◌, arith, ⊎_elim}
use Rattle.std.proofs.lemmas.Slice.Eq.{bytes_eq-Decides}
use Rattle.std.proofs.lemmas.List.{nil_from_length}
use Rattle.std.specs.Iterator.Adapters.{zip_first, zip_second}
use Rattle.std.specs.Slice.Iter.{chunks_rest, chunks_size, chunks_exact_rest, chunks_exact_size}
use Rattle.wire.specs.Octets.{big}
use Rattle.wire.proofs.Front.{big_4}
use Rattle.packet.specs.Sums.{sum_octets, sums_of}
use Rattle.packet.proofs.Chunks.{none_to_sum_in, sums_of_long, other_length, same_length, left_all, left_more, left_other, left_none}
use Rattle.packet.proofs.Same.{same, other, differ, agree}
use Rattle.packet.proofs.sums.sums_match.Goals as goal
use Rattle.packet.proofs.sums.sums_match.Goals.{After-ne, After-ne-in-loop-chunk}

pub returns-then-ne : goal.returns-then-ne
returns-then-ne c =
    other c.args.sums.now (sums_of c.args.chunk_size c.args.data.now)
    (λ e. other_length _ _ _ _ c.sums_len.ensures c.ne.ensures c.if-ne.true (omega arith) (ap length e ∙ sums_of_long c.args.chunk_size c.args.data.now))

pub returns-then-is_empty : goal.returns-then-is_empty
returns-then-is_empty c =
    let none = none_to_sum_in c.args.chunk_size c.args.data.now _ c.is_empty.ensures c.then-is_empty.either in
    let long = same_length _ _ _ _ c.sums_len.ensures c.ne.ensures c.if-ne.false in
    same c.args.sums.now (sums_of c.args.chunk_size c.args.data.now) (nil_from_length c.args.sums.now (omega (arith, ap length none, sums_of_long c.args.chunk_size c.args.data.now)) ∙ sym none)

pub loop-chunk-init : goal.loop-chunk-init
loop-chunk-init c =
    let long = same_length _ _ _ _ c.sums_len.ensures c.ne.ensures c.if-ne.false in
    let it = c.into_iter-chunk-iterator.ensures.into_iter_gives in
    let rest = ap (λ z. chunks_rest (zip_first z)) it ∙ ap chunks_rest c.zip-chunk-items.ensures.first ∙ c.chunks.ensures.rest in
    let rest_sums = ap (λ z. chunks_exact_rest (zip_second z)) it ∙ ap chunks_exact_rest c.zip-chunk-items.ensures.second ∙ c.chunks_exact.ensures.rest in
    record {
      size = ap (λ z. chunks_size (zip_first z)) it ∙ ap chunks_size c.zip-chunk-items.ensures.first ∙ c.chunks.ensures.size;
      width = ap (λ z. chunks_exact_size (zip_second z)) it ∙ ap chunks_exact_size c.zip-chunk-items.ensures.second ∙ c.chunks_exact.ensures.size;
      left = left_all c.args.chunk_size c.args.sums.now c.args.data.now _ _ rest_sums rest long;
    }

-- the octets that a sum is compared with
computed : (c : After-ne-in-loop-chunk) → c.as_slice.result.now ≡ sum_octets c.in-Some.chunk.now
unfolding sum_octets
computed c = c.as_slice.ensures ∙ c.to_be_bytes.ensures ∙ big_4 c.checksum.result ∙ ap (big 4) c.checksum.ensures

pub returns-then-ne-2 : goal.returns-then-ne-2
returns-then-ne-2 c =
    let a = (goal.at.returns-then-ne-2 c).After-ne-in-loop-chunk in
    let i = c.loop-chunk.invariant in
    let s = c.in-Some.ensures.steps in
    let d = differ _ _ _ c.ne-in-loop-chunk.result (bytes_eq-Decides c.in-Some.sum.now c.as_slice.result.now) c.ne-in-loop-chunk.ensures c.if-ne-2.true in
    other c.args.sums.now (sums_of c.args.chunk_size c.args.data.now)
    (left_other i.left c.in-Some.sum.now c.in-Some.chunk.now _ _ (omega arith) s.1.1.0 (s.1.1.1 ∙ i.width) s.0.1.0 (omega (arith, i.size, s.0.1.1)) s.0.1.2 (λ e. d (e ∙ sym (computed a))))

pub loop-chunk-preserved : goal.loop-chunk-preserved
loop-chunk-preserved c =
    let a = (goal.at.loop-chunk-preserved c).After-ne-in-loop-chunk in
    let i = c.loop-chunk.invariant in
    let s = c.in-Some.ensures.steps in
    let e = agree _ _ _ c.ne-in-loop-chunk.result (bytes_eq-Decides c.in-Some.sum.now c.as_slice.result.now) c.ne-in-loop-chunk.ensures c.if-ne-2.false in
    record {
      size = s.0.0 ∙ i.size;
      width = s.1.0 ∙ i.width;
      left = left_more i.left c.in-Some.sum.now c.in-Some.chunk.now _ _ (omega arith) s.1.1.0 (s.1.1.1 ∙ i.width) s.0.1.0 (omega (arith, i.size, s.0.1.1)) s.0.1.2 (e ∙ computed a);
    }

pub returns : goal.returns
returns c =
    let i = c.loop-chunk.invariant in
    same c.args.sums.now (sums_of c.args.chunk_size c.args.data.now)
    (left_none i.left (⊎_elim (λ e. inl e.1.1.0) (λ e. inr (omega (arith, i.width, e.1.1.0))) c.in-None.ensures.steps))
