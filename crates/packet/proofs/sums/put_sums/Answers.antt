use Rattle.std.proofs.Common.{◌≡◌, ◌+◌, ◌*◌, ◌≤◌, ◌++◌, length, sym, ap, ◌∙◌, arith}
use Rattle.std.proofs.lemmas.List.{append-nil, append_assoc, length-append, nil_from_length}
use Rattle.std.specs.Iterator.Adapters.{enumerate_source}
use Rattle.std.specs.Slice.Iter.{chunks_rest}
use Rattle.wire.specs.Octets.{big}
use Rattle.wire.proofs.Front.{done, big_4}
use Rattle.packet.specs.Sums.{sum_octets, sums_of}
use Rattle.packet.proofs.Chunks.{count_none, no_sums, nothing_to_sum, sums_of_long, sums_more, sum_long, put_sum}
use Rattle.packet.proofs.sums.put_sums.Goals as goal
use Rattle.packet.proofs.sums.put_sums.Goals.{After-checksum-sum}

pub returns-then-chunk_size-eq0 : goal.returns-then-chunk_size-eq0
returns-then-chunk_size-eq0 c =
    let none = count_none c.args.chunk_size (length c.args.data.now) c.if-chunk_size-eq0.true in
    nil_from_length c.args.out.now (omega (arith, c.requires, none)) ∙ sym (no_sums c.args.chunk_size c.args.data.now none)

-- the sums that are left are this one and others
more : (c : After-checksum-sum) → sums_of c.args.chunk_size (chunks_rest (enumerate_source c.loop-k.k-iterator)) ≡ sum_octets c.in-Some.chunk.now ++ sums_of c.args.chunk_size (chunks_rest (enumerate_source c.next.new.self))
more c =
    let s = c.in-Some.ensures.steps.0 in
    sums_more c.args.chunk_size _ c.in-Some.chunk.now _ (omega arith) s.1.0 (omega (arith, c.loop-k.invariant.1.size)) s.1.2

-- so that there is room for it
room : (c : After-checksum-sum) → 4 * c.in-Some.k + 4 ≤ length c.args.out.now
room c =
    let i = c.loop-k.invariant in
    omega (arith, c.in-Some.ensures.steps.1, i.1.front.long, ap length i.1.all, length-append i.0 (sums_of c.args.chunk_size (chunks_rest (enumerate_source c.loop-k.k-iterator))), ap length (more c), length-append (sum_octets c.in-Some.chunk.now) (sums_of c.args.chunk_size (chunks_rest (enumerate_source c.next.new.self))), sum_long c.in-Some.chunk.now, sums_of_long c.args.chunk_size c.args.data.now, c.requires)

pub slice_bounds-copy_from_slice-end : goal.slice_bounds-copy_from_slice-end
slice_bounds-copy_from_slice-end c = let h = room (goal.at.slice_bounds-copy_from_slice-end c).After-checksum-sum in omega arith

pub loop-k-preserved : goal.loop-k-preserved
unfolding sum_octets
loop-k-preserved c =
    let a = (goal.at.loop-k-preserved c).After-checksum-sum in
    let i = c.loop-k.invariant in
    let s = c.in-Some.ensures.steps in
    let h = room a in
    let e = c.copy_from_slice.ensures.after ∙ c.to_be_bytes.ensures ∙ big_4 c.checksum-sum.result ∙ ap (big 4) c.checksum-sum.ensures in (
      i.0 ++ sum_octets c.in-Some.chunk.now,
      record {
        size = s.0.0 ∙ i.1.size;
        front = put_sum _ _ _ _ c.in-Some.chunk.now _ i.1.front s.1 s.2 (omega arith) e h;
        all = append_assoc i.0 (sum_octets c.in-Some.chunk.now) (sums_of c.args.chunk_size (chunks_rest (enumerate_source c.next.new.self))) ∙ ap (λ r. i.0 ++ r) (sym (more a)) ∙ i.1.all;
      },
    )

pub returns : goal.returns
returns c =
    let i = c.loop-k.invariant in
    let s = c.in-None.ensures.steps in
    let none = ap (sums_of c.args.chunk_size) (nil_from_length (chunks_rest (enumerate_source c.loop-k.k-iterator)) s.0.1.0) ∙ nothing_to_sum c.args.chunk_size in
    let all = sym (append-nil i.0) ∙ ap (λ r. i.0 ++ r) (sym none) ∙ i.1.all in
    done i.1.front (omega (arith, ap length all, i.1.front.long, sums_of_long c.args.chunk_size c.args.data.now, c.requires)) ∙ all
