use Rattle.std.proofs.Common.{ℕ, Ok, Err, refl, ap, ◌∙◌, rules}
use Rattle.std.proofs.lemmas.Result.{err_from_is_err_and}
use Rattle.pipeline.proofs.Adding.{copied}
use Rattle.pipeline.proofs.Choosing.{chosen}
use Rattle.pipeline.proofs.channel.Channel.copy_to_new.Goals as goal

pub offset_bounds-list-source : goal.offset_bounds-list-source
offset_bounds-list-source g c = let h = (chosen c.args.list.now c.args.old.now _ c.in_ok-new.ensures).1 in search rules

pub bounds-list-source : goal.bounds-list-source
bounds-list-source g c = (chosen c.args.list.now c.args.old.now _ c.in_ok-new.ensures).1

pub offset_bounds-list-new : goal.offset_bounds-list-new
offset_bounds-list-new g c = let h = (chosen c.args.list.now c.args.old.now _ c.in_ok-new.ensures).0 in search rules

pub bounds-list-new : goal.bounds-list-new
bounds-list-new g c = (chosen c.args.list.now c.args.old.now _ c.in_ok-new.ensures).0

pub returns-in_err-transfer : goal.returns-in_err-transfer
returns-in_err-transfer g c =
    let nodes = c.args.list.now in
    let places : ℕ × ℕ = (c.in_ok-new.new, c.in_ok-new.source) in
    let h = chosen nodes c.args.old.now places c.in_ok-new.ensures in
    let p = err_from_is_err_and c.from_residual-in_err-transfer.result c.from_residual-in_err-transfer.ensures.1 in
    let acts = copied _ nodes _ _ _ c.args.header _ places c.in_ok-new.ensures (record {
      new = c.index-list-new.result;
      source = c.index-list-source.result;
      new_within = h.0;
      source_within = h.1;
      new_is = c.index-list-new.is;
      source_is = c.index-list-source.is;
      reply = Err c.in_err-transfer.field-0.0;
      copied = c.in_err-transfer.ensures.acts;
      is = p.1 ∙ ap Err p.2;
    }) in
    record { acts = acts; same = c.in_err-transfer.ensures.same }

pub returns : goal.returns
returns g c =
    let nodes = c.args.list.now in
    let places : ℕ × ℕ = (c.in_ok-new.new, c.in_ok-new.source) in
    let h = chosen nodes c.args.old.now places c.in_ok-new.ensures in
    let acts = copied _ nodes _ _ _ c.args.header _ places c.in_ok-new.ensures (record {
      new = c.index-list-new.result;
      source = c.index-list-source.result;
      new_within = h.0;
      source_within = h.1;
      new_is = c.index-list-new.is;
      source_is = c.index-list-source.is;
      reply = Ok tt;
      copied = c.in_ok-transfer.ensures.acts;
      is = refl;
    }) in
    record { acts = acts; same = c.in_ok-transfer.ensures.same }
