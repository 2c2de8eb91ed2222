use Rattle.std.proofs.Common.{◌≡◌, ℕ, ap, ◌∙◌, arith}
use Rattle.packet.specs.Sizes.{capacity_of}
use Rattle.packet.proofs.Room.{size_some}
use Rattle.writer.specs.Opening.{capacity_in}
use Rattle.writer.proofs.Openings.{store_fits}
use Rattle.writer.proofs.settle.terms_for.Goals as goal

pub slots_in-requires : goal.slots_in-requires
slots_in-requires c =
    let o = c.args.opening in
    let z = c.args.size in
    let e : c.capacity.result ≡ capacity_in o = c.capacity.ensures ∙ ap (λ (k : ℕ). capacity_of 4 k z.packet) c.requires.chunk_value.0 ∙ ap (λ (k : ℕ). capacity_of 4 o.chunk_size k) c.requires.chunk_value.1 in
    (omega (arith, size_some z, c.capacity.ensures), omega (arith, store_fits o c.args.lengths c.requires.opening_value.1, e))
