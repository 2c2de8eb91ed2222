use Rattle.std.proofs.Common.{◌≡◌, ◌++◌, map, length, vec_items, vec_len, ap, ◌∙◌}
use Rattle.std.proofs.lemmas.List.{take_at}
use Rattle.std.proofs.lemmas.Bool.{cond-true, cond-false, eq-eqb, ne_eqb}
use Rattle.spool.specs.Spools.{spool_view}
use Rattle.bench.specs.Replicas.{copies, mirrored}
use Rattle.bench.specs.Mirrors.{mirrored_more, put_bytes}
use Rattle.bench.proofs.calls.BenchLink.put.Goals as goal

pub invariant_of-self-then-packet : goal.invariant_of-self-then-packet
invariant_of-self-then-packet c =
    let s = c.args.self.now in
    let v = spool_view s.lead in
    let w = spool_view c.put.new.self in
    let ws = c.append_all.new.replicas in
    let d = c.in_ok-packet.field-0.packet.«data».now in
    let read = rw c.in_ok-packet.ensures.ok_part at c.read_frame.ensures in
    let bytes = put_bytes v w c.args.frame.now _ read c.in_ok-put.ensures ∙ cond-false _ _ _ (ne_eqb _ _ c.if-packet.true) in
    let long : length ws ≡ vec_len s.mirrors = c.append_all.auto.replicas ∙ c.deref_mut.ensures.len in
    let items = take_at ws _ (vec_len s.mirrors) long in
    let grown = ap copies items ∙ c.append_all.ensures ∙ ap (λ z. map (λ b. b ++ d) (copies z)) c.deref_mut.ensures.value in
    record { same = (λ i. mirrored (bytes i) (grown i)) ∙ mirrored_more v.bytes d (copies (vec_items s.mirrors)) s.same }

pub invariant_of-self-else-packet : goal.invariant_of-self-else-packet
invariant_of-self-else-packet c =
    let s = c.args.self.now in
    let read = rw c.in_ok-packet.ensures.ok_part at c.read_frame.ensures in
    let bytes = put_bytes (spool_view s.lead) (spool_view c.put.new.self) c.args.frame.now _ read c.in_ok-put.ensures ∙ cond-true _ _ _ (eq-eqb _ _ c.if-packet.false) in
    record { same = ap (λ z. mirrored z (copies (vec_items s.mirrors))) bytes ∙ s.same }
