use Rattle.std.proofs.Common.{ℕ, List, [], get_or, ap, Bor}
use Rattle.writer.proofs.Listing.{row_at_lem}
use Rattle.writer.proofs.opening.Opening.row.Goals as goal

pub returns : goal.returns
returns c =
    let o = c.args.self in
    let i = c.args.i in
    let nowhere : Bor (List ℕ) = record { ref_ptr = (0, 0); now = [] } in
    row_at_lem o.infos.now o.storage_ids.now o.storage_types.now i nowhere nowhere _ c.requires.0 c.requires.1 c.requires.2
    (ap (λ (k : ℕ). record { info = (get_or o.infos.now i nowhere).now; storage = (get_or o.storage_ids.now i nowhere).now; kind = k }) c.from.ensures)
