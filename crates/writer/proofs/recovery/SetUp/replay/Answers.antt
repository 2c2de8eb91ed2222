use Rattle.std.proofs.Common.{◌≡◌, ℕ, ◌+◌, ◌-◌, Bool, true, false, List, None, vec_items, sym, refl, ap, ◌∙◌, subst, arith}
use Rattle.packet.specs.Frame.{octets_of, over}
use Rattle.held.specs.Slots.{sizes_of, size_at, slot_of, packet_of, last_at, packets}
use Rattle.held.proofs.Packets.{total_more, total_le}
use Rattle.writer.specs.Replaying.{Replays}
use Rattle.writer.specs.Sizes.{capacity}
use Rattle.writer.specs.States.{ended}
use Rattle.writer.specs.Views.{view_of, chunk_of, held_in}
use Rattle.writer.proofs.Replaying.{Onward, one_more, one_lost, none_left}
use Rattle.writer.proofs.recovery.SetUp.replay.Goals as goal

pub overflow_add-offset : goal.overflow_add-offset
overflow_add-offset g c =
    let w = c.args.writer.now in
    let sizes = sizes_of (vec_items w.held.records) in
    let s = w.terms.slots in
    let i = c.packets.i in
    omega (arith, c.packets.invariant.1, c.held_len.ensures.value, total_more s sizes i w.first, total_le s sizes (i + 1) w.count w.first (omega arith), w.sums, w.ends, w.limit, c.requires.least_value)

pub packets-preserved : goal.packets-preserved
packets-preserved g c =
    let w = c.args.writer.now in
    let u = chunk_of (view_of w) in
    let k = capacity w.terms in
    let s = w.terms.slots in
    let sizes = sizes_of (vec_items w.held.records) in
    let store = c.args.store.now in
    let i = c.packets.i in
    let o = c.packets.offset in
    let fin = ended w.state in
    let inv = c.packets.invariant in
    let bytes = slot_of k s store (w.first + i) (size_at s sizes (w.first + i)) in
    let last : c.is_last-last.result ≡ last_at fin (w.count - i - 1) = c.is_last-last.ensures ∙ ap (λ (f : Bool). last_at f (w.count - i - 1)) c.has_ended-finished.ensures in
    let act = subst (λ (b : Bool). g.L.Link.puts c.packets.link (octets_of (packet_of u o (w.first + i) b bytes)) true c.put_held-put.new.link) last (subst (λ (sent : Bool). g.L.Link.puts c.packets.link (octets_of (packet_of u o (w.first + i) c.is_last-last.result bytes)) sent c.put_held-put.new.link) c.if-is_err.ensures.negation c.put_held-put.ensures.put) in
    let go = one_more g.L.Link (held_in (view_of w) store c.args.self.least) c.args.frame.now c.args.link.now u k s sizes store fin i w.count w.first o c.packets.frame c.packets.link inv.3 (omega arith) c.put_held-put.new.link act in
    let fr : c.put_held-put.new.frame ≡ over (packet_of u o (w.first + i) (last_at fin (w.count - i - 1)) bytes) c.packets.frame = c.put_held-put.ensures.frame ∙ ap (λ (b : Bool). over (packet_of u o (w.first + i) b bytes) c.packets.frame) last in
    let go2 = subst (λ (f : List ℕ). Onward g.L.Link (held_in (view_of w) store c.args.self.least) c.args.frame.now c.args.link.now (i + 1) (packets u k s sizes store fin (w.count - (i + 1)) (w.first + (i + 1)) (o + size_at s sizes (w.first + i))) f c.put_held-put.new.link) (sym fr) go in
    let go3 = subst (λ (m : ℕ). Onward g.L.Link (held_in (view_of w) store c.args.self.least) c.args.frame.now c.args.link.now (i + 1) (packets u k s sizes store fin (w.count - (i + 1)) (w.first + (i + 1)) (o + m)) c.put_held-put.new.frame c.put_held-put.new.link) (sym c.held_len.ensures.value) go2 in
    (omega arith, omega (arith, inv.1, c.held_len.ensures.value, total_more s sizes i w.first), omega (arith, inv.2), go3)

pub returns-then-is_err : goal.returns-then-is_err
returns-then-is_err g c =
    let w = c.args.writer.now in
    let u = chunk_of (view_of w) in
    let k = capacity w.terms in
    let s = w.terms.slots in
    let sizes = sizes_of (vec_items w.held.records) in
    let store = c.args.store.now in
    let i = c.packets.i in
    let o = c.packets.offset in
    let fin = ended w.state in
    let inv = c.packets.invariant in
    let bytes = slot_of k s store (w.first + i) (size_at s sizes (w.first + i)) in
    let last : c.is_last-last.result ≡ last_at fin (w.count - i - 1) = c.is_last-last.ensures ∙ ap (λ (f : Bool). last_at f (w.count - i - 1)) c.has_ended-finished.ensures in
    let act = subst (λ (b : Bool). g.L.Link.puts c.packets.link (octets_of (packet_of u o (w.first + i) b bytes)) false c.put_held-put.new.link) last (subst (λ (sent : Bool). g.L.Link.puts c.packets.link (octets_of (packet_of u o (w.first + i) c.is_last-last.result bytes)) sent c.put_held-put.new.link) c.if-is_err.ensures.negation c.put_held-put.ensures.put) in
    let fr : c.put_held-put.new.frame ≡ over (packet_of u o (w.first + i) (last_at fin (w.count - i - 1)) bytes) c.packets.frame = c.put_held-put.ensures.frame ∙ ap (λ (b : Bool). over (packet_of u o (w.first + i) b bytes) c.packets.frame) last in
    let end = one_lost g.L.Link (held_in (view_of w) store c.args.self.least) c.args.frame.now c.args.link.now u k s sizes store fin i w.count w.first o c.packets.frame c.packets.link inv.3 (omega arith) c.put_held-put.new.link act in
    record { replays = rw fr end; stamp = refl }

pub returns : goal.returns
returns g c =
    let w = c.args.writer.now in
    let n : c.packets.i ≡ w.count = omega arith in
    let all = none_left g.L.Link (held_in (view_of w) c.args.store.now c.args.self.least) c.args.frame.now c.args.link.now (chunk_of (view_of w)) (capacity w.terms) w.terms.slots (sizes_of (vec_items w.held.records)) c.args.store.now (ended w.state) c.packets.i w.count w.first c.packets.offset c.packets.frame c.packets.link c.packets.invariant.3 (omega arith) in
    record { replays = subst (λ (k : ℕ). Replays g.L.Link (held_in (view_of w) c.args.store.now c.args.self.least) c.args.frame.now c.args.link.now k None c.packets.frame c.packets.link) n all; stamp = refl }
