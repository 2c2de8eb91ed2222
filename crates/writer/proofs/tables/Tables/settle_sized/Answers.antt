use Rattle.std.proofs.Common.{◌≡◌, length, None, vec_items, ap, subst, arith, rules}
use Rattle.writer.specs.Opening.{by_length, by_count, by_buffers}
use Rattle.writer.specs.Settling.{Formed}
use Rattle.writer.proofs.Listing.{rows_long, map_long}
use Rattle.writer.proofs.Openings.{counts_fit, later_none}
use Rattle.writer.proofs.tables.Tables.settle_sized.Goals as goal

pub returns : goal.returns
returns c =
    let o = c.args.opening in
    let l = c.args.lengths in
    let a : by_length o ≡ None = search rules in
    let b : by_count o ≡ None = search rules in
    let d : by_buffers o l ≡ None = search rules in
    let nodes = vec_items c.read_forms.new.self.nodes.rows in
    let f = subst (Formed o nodes) c.in_ok-forms.ensures.ok_part c.read_forms.ensures in
    let n = counts_fit o b in
    let long = rows_long o.infos.now o.storage_ids.now o.storage_types.now n.names n.types in
    record {
      good = later_none o l a b f.good d;
      terms = c.terms_for.ensures.terms;
      fits = c.terms_for.ensures.fits;
      given = f.token;
      rows = f.rows;
      some = omega (arith, ap length f.rows, map_long nodes, long, n.some);
      few = omega (arith, ap length f.rows, map_long nodes, long, n.few);
    }
