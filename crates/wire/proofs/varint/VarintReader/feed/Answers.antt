use Rattle.std.proofs.Common.{◌+◌, Ok, ap, ◌∙◌, arith}
use Rattle.wire.specs.Steps.{More, Whole}
use Rattle.wire.proofs.Varints.{VarintTurn, joins, last, goes, grows, room, not_tenth}
use Rattle.wire.proofs.varint.VarintReader.feed.Goals as goal
use Rattle.wire.proofs.varint.VarintReader.feed.Goals.{After-from}

turn : (c : After-from) → VarintTurn c.args.self.now.turn c.args.self.now.low c.args.b c.from.result
turn c = record {
  under = c.args.self.now.few;
  low = c.args.self.now.small;
  fit = c.else-self-eq9.either;
  byte = omega arith;
  digit = c.from.ensures;
}

pub returns-then-b-lt128-clause-step : goal.returns-then-b-lt128-clause-step
returns-then-b-lt128-clause-step c =
    let h = turn (goal.at.returns-then-b-lt128-clause-step c).After-from in
    ap (λ n. Ok (Whole n)) (joins h) ∙ last h c.if-b-lt128.true

pub returns-then-b-lt128-clause-sound : goal.returns-then-b-lt128-clause-sound
returns-then-b-lt128-clause-sound c =
    let h = turn (goal.at.returns-then-b-lt128-clause-sound c).After-from in
    rw (joins h) (room h)

pub invariant_of-self : goal.invariant_of-self
invariant_of-self c =
    let h = turn (goal.at.invariant_of-self c).After-from in
    record { small = rw (joins h) (grows h); few = omega (arith, not_tenth h c.if-b-lt128.false) }

pub returns-clause-step : goal.returns-clause-step
returns-clause-step c =
    let h = turn (goal.at.returns-clause-step c).After-from in
    ap (λ n. Ok (More n (c.args.self.now.turn + 1))) (joins h) ∙ goes h c.if-b-lt128.false
