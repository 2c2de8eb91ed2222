use Rattle.std.proofs.Common.{ap, ◌∙◌, arith}
use Rattle.std.proofs.lemmas.Bool.{cond-true}
use Rattle.std.specs.VecDeque.{deque_items}
use Rattle.spool.specs.Counts.{total, numbered}
use Rattle.spool.specs.Packets.{total_push, numbered_push}
use Rattle.spool.proofs.state.Spool.hold.Goals as goal

pub invariant_of-self-clause-adds : goal.invariant_of-self-clause-adds
invariant_of-self-clause-adds c =
    let pushed = c.push_back.ensures.succeeds (omega (arith, c.requires.0, c.args.self.now.places)) in
    let grown = c.extend_from_slice.ensures.succeeds (omega (arith, c.requires.1, c.args.self.now.room)) in
    let sum = ap total (c.push_back.ensures.items ∙ cond-true _ _ _ pushed) ∙ total_push (deque_items c.args.self.now.pending) _ in
    let len = c.extend_from_slice.ensures.len ∙ cond-true _ _ _ grown in
    omega (arith, sum, len, c.args.self.now.adds)

pub invariant_of-self-clause-widths : goal.invariant_of-self-clause-widths
invariant_of-self-clause-widths c =
    let pushed = c.push_back.ensures.succeeds (omega (arith, c.requires.0, c.args.self.now.places)) in
    ap numbered (c.push_back.ensures.items ∙ cond-true _ _ _ pushed) ∙ numbered_push (deque_items c.args.self.now.pending) _ c.args.self.now.widths (omega arith)
