use Rattle.std.proofs.Common.{◌≡◌}
use Rattle.std.specs.Iterator.Adapters.{zip_first, zip_second}
use Rattle.std.specs.Slice.Iter.{chunks_rest, chunks_size, chunks_exact_rest, chunks_exact_size}
use Rattle.packet.proofs.Chunks.{Left}
use Rattle.packet.proofs.sums.sums_match.Given as goal

abbrev pub invariant-loop-chunk : goal.invariant-loop-chunk
invariant-loop-chunk l = record {
  size : chunks_size (zip_first l.chunk-iterator) ≡ l.chunk_size;
  width : chunks_exact_size (zip_second l.chunk-iterator) ≡ 4;
  left : Left l.chunk_size l.sums l.data (chunks_exact_rest (zip_second l.chunk-iterator)) (chunks_rest (zip_first l.chunk-iterator));
}
