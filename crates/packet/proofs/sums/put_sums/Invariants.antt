use Rattle.std.proofs.Common.{◌≡◌, ℕ, ◌*◌, List, ◌++◌}
use Rattle.std.specs.Iterator.Adapters.{enumerate_source, enumerate_count}
use Rattle.std.specs.Slice.Iter.{chunks_rest, chunks_size}
use Rattle.wire.proofs.Front.{Front}
use Rattle.packet.specs.Sums.{sums_of}
use Rattle.packet.proofs.sums.put_sums.Given as goal

-- the sums of the chunks so far stand at the front, and the rest has the others
abbrev pub invariant-loop-k : goal.invariant-loop-k
invariant-loop-k l = (p : List ℕ) × record {
  size : chunks_size (enumerate_source l.k-iterator) ≡ l.chunk_size;
  front : Front l.initial.out (4 * enumerate_count l.k-iterator) p l.out;
  all : p ++ sums_of l.chunk_size (chunks_rest (enumerate_source l.k-iterator)) ≡ sums_of l.chunk_size l.data;
}
