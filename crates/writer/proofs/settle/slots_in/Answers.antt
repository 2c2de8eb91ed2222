use Rattle.std.proofs.Common.{◌≡◌, ◌/◌, min, rules}
use Rattle.writer.proofs.Openings.{slots_bound}
use Rattle.writer.proofs.settle.slots_in.Goals as goal

pub returns : goal.returns
returns c =
    let e : c.min.result ≡ min 101 (c.args.store_len / c.args.capacity) = search rules in
    record { value = e; bounds = slots_bound c.min.result c.args.store_len c.args.capacity c.requires.0 c.requires.1 e }
