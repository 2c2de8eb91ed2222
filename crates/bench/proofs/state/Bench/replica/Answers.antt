use Rattle.std.proofs.Common.{◌<◌, length, vec_items, sym, ◌∙◌}
use Rattle.std.proofs.lemmas.Bool.{ltb-true}
use Rattle.spool.specs.Spools.{spool_view}
use Rattle.bench.specs.Mirrors.{mirrored_at}
use Rattle.bench.proofs.state.Bench.replica.Goals as goal

pub returns : goal.returns
returns c =
    let s = c.args.self.now in
    let x = c.in_ok-replica.replica.now in
    let look = rw c.deref.ensures.value at c.in_ok-replica.ensures.lookup in
    let within : c.args.i < length (vec_items s.mirrors) = ltb-true _ _ (sym look.0) in
    (within, c.as_slice.ensures.value ∙ mirrored_at (spool_view s.lead).bytes (vec_items s.mirrors) c.args.i x s.same within look.1)
