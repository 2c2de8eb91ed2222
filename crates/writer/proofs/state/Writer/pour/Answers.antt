use Rattle.std.proofs.Common.{◌≡◌, ◌+◌, ◌-◌, length, take, drop, ap, ◌∙◌, arith, length-drop, length-take}
use Rattle.writer.specs.declared.terms.Terms.{Terms}
use Rattle.writer.specs.Calls.{Streamer}
use Rattle.writer.specs.Sizes.{frame_room}
use Rattle.writer.specs.Views.{view_of}
use Rattle.writer.specs.Writing.{amount}
use Rattle.writer.proofs.Rooms.{room_some}
use Rattle.writer.proofs.Turns.{begin, then_poured, then_handed, ends_lost, ends_stopped, amount_le, pour_some, hand_full}
use Rattle.writer.proofs.state.Writer.pour.Goals as goal

pub turns-init : goal.turns-init
turns-init g c = (omega arith, c.requires.state_value, c.requires.buffers, begin g.L.Link _ c.args.bytes.now)

pub returns-in-Stopped : goal.returns-in-Stopped
returns-in-Stopped g c = let e = c.in-Stopped.ensures in ends_stopped g.L.Link _ c.args.bytes.now c.turns.taken _ c.turns.invariant.3 _ e.0 e.1

pub returns-in-Lost : goal.returns-in-Lost
returns-in-Lost g c = let e = c.in-Lost.ensures in ends_lost g.L.Link _ c.args.bytes.now c.turns.taken _ c.turns.invariant.3 _ e.0 e.1 e.2

pub turns-preserved-in-Poured : goal.turns-preserved-in-Poured
turns-preserved-in-Poured g c =
    let e = c.in-Poured.ensures in
    let i = c.turns.invariant in
    let bytes = c.args.bytes.now in
    let a = c.turns.taken in
    let v = view_of c.turns.self in
    let rest = take (length bytes - a) (drop a bytes) in
    let len : length rest ≡ length bytes - a = length-take (length bytes - a) (drop a bytes) ∙ omega (arith, length-drop a bytes) in
    let at : c.turn.new.self.terms ≡ c.turns.self.terms = ap (λ (p : Streamer _). p.view.terms) e.2 in (
      omega (arith, e.1, amount_le v (length rest), len),
      ap (λ (p : Streamer _). p.view.state) e.2 ∙ i.1,
      record { store_len = omega (arith, i.2.store_len, ap (λ (t : Terms). t.store_len) at); frame_len = omega (arith, i.2.frame_len, ap frame_room at) },
      then_poured g.L.Link _ bytes a _ i.3 c.in-Poured.n _ e.0 e.1 e.2,
    )

pub turns-preserved : goal.turns-preserved
turns-preserved g c =
    let e = c.in-Handed.ensures in
    let i = c.turns.invariant in
    let at : c.turn.new.self.terms ≡ c.turns.self.terms = ap (λ (p : Streamer _). p.view.terms) e.2 in (
      i.0,
      ap (λ (p : Streamer _). p.view.state) e.2 ∙ i.1,
      record { store_len = omega (arith, i.2.store_len, ap (λ (t : Terms). t.store_len) at); frame_len = omega (arith, i.2.frame_len, ap frame_room at) },
      then_handed g.L.Link _ c.args.bytes.now c.turns.taken _ i.3 _ e.0 e.1 e.2,
    )

pub turns-smaller-in-Poured : goal.turns-smaller-in-Poured
turns-smaller-in-Poured g c =
    let e = c.in-Poured.ensures in
    let bytes = c.args.bytes.now in
    let a = c.turns.taken in
    let v = view_of c.turns.self in
    let rest = take (length bytes - a) (drop a bytes) in
    let len : length rest ≡ length bytes - a = length-take (length bytes - a) (drop a bytes) ∙ omega (arith, length-drop a bytes) in
    let f : c.turn.new.self.filling ≡ c.turns.self.filling + amount v (length rest) = ap (λ (p : Streamer _). p.view.filling) e.2 in
    omega (arith, e.1, amount_le v (length rest), len, f, pour_some v (length rest) e.0)

pub turns-smaller : goal.turns-smaller
turns-smaller g c =
    let e = c.in-Handed.ensures in
    let w = c.turns.self in
    let f : c.turn.new.self.filling ≡ 0 = ap (λ (p : Streamer _). p.view.filling) e.2 in
    omega (arith, f, hand_full (view_of w) _ e.0, room_some w.terms (w.first + w.count))
