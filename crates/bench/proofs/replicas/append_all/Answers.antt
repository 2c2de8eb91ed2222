use Rattle.std.proofs.Common.{◌+◌, ◌≤◌, ◌++◌, length, vec_items, vec_len, vec_capacity, sym, ap, ◌∙◌, subst}
use Rattle.std.proofs.lemmas.Bool.{cond-true}
use Rattle.bench.proofs.Rooms.{room_at, same_there, grown, kept_left}
use Rattle.bench.proofs.replicas.append_all.Goals as goal

pub loop-replica-preserved : goal.loop-replica-preserved
loop-replica-preserved c =
    let rs = c.loop-replica.replicas in
    let es = c.args.replicas.now in
    let more = c.args.more.now in
    let i = c.loop-replica.replica-index in
    let x = c.replica-item.result in
    let v = c.extend_from_slice.new.self in
    let inv = c.loop-replica.invariant in
    let long = c.loop-replica.auto.replicas in
    let there = same_there rs es more i x v inv.grown inv.left long c.loop-replica-test.true c.replica-item.is in
    let room = room_at es (length more) i x c.requires c.loop-replica-test.true there in
    let ok = c.extend_from_slice.ensures.succeeds (subst (λ z. vec_len z + length more ≤ vec_capacity z) c.replica-item.is room) in
    let items = c.extend_from_slice.ensures.items ∙ cond-true _ _ _ ok ∙ ap (λ z. vec_items z ++ more) (sym c.replica-item.is) in
    record {
      grown = grown rs es more i x v inv.grown inv.left long c.loop-replica-test.true c.replica-item.is items;
      left = kept_left rs es more i x v inv.grown inv.left long c.loop-replica-test.true c.replica-item.is;
    }
