-- A write keeps bytes and packets in order: what it counts as taken is accepted, turn by turn. Assumes nothing.
use Rattle.std.proofs.Common.{◌≡◌, ℕ, ◌+◌, ◌<◌, ◌≤◌, Bool, true, false, cond, ltb, List, ◌++◌, length, take, drop, Ok, Err, Result, refl, sym, ap, ◌∙◌, subst, append_assoc, length-append, length-take, arith}
use borrow.Rule.Slice.PartMut.{put_mid}
use Rattle.std.proofs.Math.Seq.{take-add}
use Rattle.std.proofs.lemmas.Bool.{ltb-true}
use Rattle.std.proofs.lemmas.List.{append-nil}
use Rattle.held.proofs.Packets.{slot_within}
use Rattle.held.proofs.Filling.{takes_in, put_long}
use Rattle.chain.specs.declared.link.Link as Link
use Rattle.chain.specs.Meaning.{Seen}
use Rattle.writer.specs.declared.refusal.Refusal.{Refusal}
use Rattle.writer.specs.declared.state.kind.State.TheVariants.{Streaming}
use Rattle.writer.specs.declared.write.Written.{Written}
use Rattle.writer.specs.Calls.{Streamer}
use Rattle.writer.specs.Sizes.{capacity}
use Rattle.writer.specs.States.{ended, last_ones}
use Rattle.writer.specs.Views.{View, chunk_of, next_of, with_bytes, slot_start}
use Rattle.writer.specs.Writing.{amount, full, hand, pour, stop, turn_of, poured, handed_over, Writes, stops, pours, hands, loses, Wrote}
use Rattle.writer.proofs.Rooms.{room_within, room_some}
use Rattle.writer.proofs.Turns.{hand_full, amount_le}
use Rattle.runs.specs.History.{History, wrote}
use Rattle.runs.proofs.Invariant.{Fit, Holds, Flows}
use Rattle.runs.proofs.Fits.{fit_poured, fit_held}
use Rattle.runs.proofs.Hands.{hands_keep}
use Rattle.runs.proofs.Means.{MeansChain}
use Rattle.runs.proofs.Keeps.{Keeps, keeps_then}
use Rattle.runs.proofs.States.{stays}

-- with other accepted bytes
abbrev accepts : History → List ℕ → History
accepts h all = record h { accepted = all }

accepts_as : (h : History) (v w : View) (store : List ℕ) (x : Seen) {a b : List ℕ} → a ≡ b → Keeps (accepts h a) v w store x → Keeps (accepts h b) v w store x
accepts_as h v w store x e k = subst (λ (l : List ℕ). Keeps (accepts h l) v w store x) e k

-- the bytes that come into the packet being filled, and the store with them
abbrev coming : View → List ℕ → List ℕ
coming v bytes = take (amount v (length bytes)) bytes

abbrev filled : View → List ℕ → List ℕ → List ℕ
filled v store bytes = put_mid (slot_start v + v.filling) (amount v (length bytes)) store (coming v bytes)

module _ (v : View) (store bytes : List ℕ) (f : Fit v (length store)) where
  coming_long : length (coming v bytes) ≡ amount v (length bytes)
  coming_long = simp length-take (omega (arith, amount_le v (length bytes)))

  coming_room : v.filling + amount v (length bytes) ≤ capacity v.terms
  coming_room = omega (arith, f.fits, room_within v.terms (next_of v))

  filled_long : length (filled v store bytes) ≡ length store
  filled_long =
      let within = slot_within (capacity v.terms) v.terms.slots (next_of v) (omega (arith, f.slots)) in
      put_long store (coming v bytes) (slot_start v + v.filling) (amount v (length bytes)) (omega (arith, within, f.store, coming_room)) coming_long

  filled_keeps : (h : History) (x : Seen) → Holds h v store x → Keeps (accepts h (h.accepted ++ coming v bytes)) v (with_bytes (amount v (length bytes)) v) (filled v store bytes) x
  filled_keeps h x holds =
      let ys = coming v bytes in
      let r = takes_in (chunk_of v) (capacity v.terms) v.terms.slots v.sizes store (filled v store bytes) ys (ended v.state) v.count v.first v.filling (amount v (length bytes)) x.kept (h.initial ++ h.accepted) f.room f.small f.store coming_room coming_long refl holds.whole in
      record {
        holds = record {
          store_len = filled_long ∙ holds.store_len;
          whole = r.whole ∙ append_assoc h.initial h.accepted ys;
          len = omega (arith, holds.len, coming_long, length-append h.initial (h.accepted ++ ys), length-append h.accepted ys, length-append h.initial h.accepted);
          flows = subst (Flows v.state x.pending) (sym (r.same (length x.kept))) holds.flows;
          told = holds.told;
          confirmed = holds.confirmed;
        };
        stamp = refl;
        terms = refl;
        opens = λ o. o;
      }

-- a packet is handed over where there is a slot for the next
hand_places : (v : View) (n : ℕ) → turn_of v n ≡ hand → v.count + 1 < v.terms.slots
hand_places v n e = ltb-true _ _ (places (full v) (ltb (v.count + 1) v.terms.slots) (ltb 0 (amount v n)) e)
  where
    places : (b c d : Bool) → cond b (cond c hand stop) (cond d pour stop) ≡ hand → c ≡ true
    places b true d e = refl
    places true false d e = absurd (let z : ◌≡◌ {A = ℕ} 0 1 = cc in omega arith)
    places false false true e = absurd (let z : ◌≡◌ {A = ℕ} 0 1 = cc in omega arith)
    places false false false e = absurd (let z : ◌≡◌ {A = ℕ} 0 1 = cc in omega arith)

module _ {C : Type 0} (acts : Link.Ghosts C) (seen : C → Seen) (means : MeansChain acts seen) where
  -- over all turns: the bytes of the first turns, and then those of the rest
  writes_keep : (h : History) {p q : Streamer C} {bytes : List ℕ} {n : ℕ} {lost : Bool} → p.view.state ≡ Streaming → Fit p.view (length p.store) → Holds h p.view p.store (seen p.link)
      → Writes acts p bytes n lost q → Keeps (accepts h (h.accepted ++ take n bytes)) p.view q.view q.store (seen q.link)
  writes_keep h streams f holds (stops {p} {bytes} e) =
      accepts_as h p.view p.view p.store (seen p.link) (sym (append-nil h.accepted)) (stays h p.view p.store (seen p.link) holds)
  writes_keep h streams f holds (pours {p} {q} {bytes} {n} {lost} e rest) =
      let m = amount p.view (length bytes) in
      let one = filled_keeps p.view p.store bytes f h (seen p.link) holds in
      let fits = subst (Fit (with_bytes m p.view)) (sym (filled_long p.view p.store bytes f)) (fit_poured p.view (length p.store) (length bytes) f streams) in
      let others = writes_keep (accepts h (h.accepted ++ coming p.view bytes)) {p = poured p bytes} {q = q} streams fits one.holds rest in
      let joined = append_assoc h.accepted (coming p.view bytes) (take n (drop m bytes)) ∙ ap (λ (l : List ℕ). h.accepted ++ l) (sym (take-add m n bytes)) in
      accepts_as h p.view q.view q.store (seen q.link) joined (keeps_then one others)
  writes_keep h streams f holds (hands {p} {q} {bytes} {n} {lost} c e act rest) =
      let one = hands_keep acts seen means h p c true streams f holds act in
      let some : 1 + last_ones p.view.state ≤ p.view.filling + last_ones p.view.state = omega (arith, hand_full p.view (length bytes) e, room_some p.view.terms (next_of p.view)) in
      let fits = fit_held p.view p.view.state (length p.store) f (hand_places p.view (length bytes) e) some in
      keeps_then one (writes_keep h {p = handed_over p true c} {q = q} streams fits one.holds rest)
  writes_keep h streams f holds (loses {p} {bytes} c e act) =
      accepts_as h p.view _ p.store (seen c) (sym (append-nil h.accepted)) (hands_keep acts seen means h p c false streams f holds act)

  pub wrote_keeps : (h : History) (p q : Streamer C) (bytes : List ℕ) (r : Result Written Refusal) → p.view.state ≡ Streaming
      → Fit p.view (length p.store) → Holds h p.view p.store (seen p.link) → Wrote acts bytes p r q → Keeps (wrote h bytes r) p.view q.view q.store (seen q.link)
  wrote_keeps h p q bytes (Ok w) streams f holds d = writes_keep h {p = p} {q = q} streams f holds d
  wrote_keeps h p q bytes (Err e) streams f holds d = absurd d
