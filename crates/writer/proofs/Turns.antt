-- What a turn of a write needs, and how turns are joined. Assumes nothing.
use Rattle.std.proofs.Common.{◌≡◌, ℕ, ◌+◌, ◌-◌, ◌<◌, ◌≤◌, Bool, true, false, cond, ltb, List, length, take, drop, sym, refl, subst, add-zero, zero-add, arith}
use Rattle.std.proofs.lemmas.List.{drop-drop, take_rest}
use Rattle.std.proofs.lemmas.Bool.{leb-true, ltb-true}
use Rattle.writer.specs.Calls.{Streamer}
use Rattle.writer.specs.Sizes.{room_at}
use Rattle.chain.specs.declared.link.Link as Link
use Rattle.writer.specs.Views.{View, next_of}
use Rattle.writer.specs.Writing.{amount, full, hand, pour, stop, turn_of, poured, handed_over, PutsOutgoing, Writes, stops, pours, hands, loses}

private_pour : (b c : Bool) (d : Bool) → cond b (cond c hand stop) (cond d pour stop) ≡ pour → (b ≡ false) × (d ≡ true)
private_pour true true d e = absurd (let z : ◌≡◌ {A = ℕ} 0 1 = cc in omega arith)
private_pour true false d e = absurd (let z : ◌≡◌ {A = ℕ} 0 1 = cc in omega arith)
private_pour false c true e = (refl, refl)
private_pour false c false e = absurd (let z : ◌≡◌ {A = ℕ} 0 1 = cc in omega arith)

private_hand : (b c : Bool) (d : Bool) → cond b (cond c hand stop) (cond d pour stop) ≡ hand → (b ≡ true) × (c ≡ true)
private_hand true true d e = (refl, refl)
private_hand true false d e = absurd (let z : ◌≡◌ {A = ℕ} 0 1 = cc in omega arith)
private_hand false c true e = absurd (let z : ◌≡◌ {A = ℕ} 0 1 = cc in omega arith)
private_hand false c false e = absurd (let z : ◌≡◌ {A = ℕ} 0 1 = cc in omega arith)

pub pour_some : (v : View) (n : ℕ) → turn_of v n ≡ pour → 0 < amount v n
pour_some v n e = ltb-true 0 (amount v n) (private_pour (full v) (ltb (v.count + 1) v.terms.slots) (ltb 0 (amount v n)) e).1

pub hand_full : (v : View) (n : ℕ) → turn_of v n ≡ hand → room_at v.terms (next_of v) ≤ v.filling
hand_full v n e = leb-true _ _ (private_hand (full v) (ltb (v.count + 1) v.terms.slots) (ltb 0 (amount v n)) e).0

-- where `taken` bytes are taken, what is made of the rest is made of the whole
abbrev pub Continues : {L : Type 0} → Link.Ghosts L → Streamer L → List ℕ → ℕ → Streamer L → Type 0
Continues {L} acts p bytes taken q = (n : ℕ) (lost : Bool) (r : Streamer L) → Writes acts q (drop taken bytes) n lost r → Writes acts p bytes (taken + n) lost r

module _ {L : Type 0} (acts : Link.Ghosts L) (p : Streamer L) (bytes : List ℕ) where
  pub begin : Continues acts p bytes 0 p
  begin n lost r w = subst (λ (k : ℕ). Writes acts p bytes k lost r) (sym (zero-add n)) w

  -- the rest, as the program hands it on
  rest : (taken : ℕ) → take (length bytes - taken) (drop taken bytes) ≡ drop taken bytes
  rest taken = take_rest bytes taken

  module _ (taken : ℕ) (q : Streamer L) (go : Continues acts p bytes taken q) where
    pub then_poured : (m : ℕ) (u : Streamer L) → turn_of q.view (length (take (length bytes - taken) (drop taken bytes))) ≡ pour → m ≡ amount q.view (length (take (length bytes - taken) (drop taken bytes)))
        → u ≡ poured q (take (length bytes - taken) (drop taken bytes)) → Continues acts p bytes (taken + m) u
    then_poured m u e em eu n lost r w =
        let ls = rest taken in
        let e' = subst (λ (l : List ℕ). turn_of q.view (length l) ≡ pour) ls e in
        let em' = subst (λ (l : List ℕ). m ≡ amount q.view (length l)) ls em in
        let eu' = subst (λ (l : List ℕ). u ≡ poured q l) ls eu in
        let w1 : Writes acts (poured q (drop taken bytes)) (drop m (drop taken bytes)) n lost r = subst (λ (l : List ℕ). Writes acts (poured q (drop taken bytes)) l n lost r) (sym (drop-drop m taken bytes)) (subst (λ (z : Streamer L). Writes acts z (drop (taken + m) bytes) n lost r) eu' w) in
        let w2 = subst (λ (k : ℕ). Writes acts (poured q (drop taken bytes)) (drop k (drop taken bytes)) n lost r) em' w1 in
        let w3 = go (amount q.view (length (drop taken bytes)) + n) lost r (pours e' w2) in
        let sum : taken + (amount q.view (length (drop taken bytes)) + n) ≡ taken + m + n = omega (arith, em') in
        subst (λ (k : ℕ). Writes acts p bytes k lost r) sum w3

    pub then_handed : (u : Streamer L) → turn_of q.view (length (take (length bytes - taken) (drop taken bytes))) ≡ hand
        → PutsOutgoing acts q true u.link → u ≡ handed_over q true u.link → Continues acts p bytes taken u
    then_handed u e act eu n lost r w =
        let e' = subst (λ (l : List ℕ). turn_of q.view (length l) ≡ hand) (rest taken) e in
        go n lost r (hands u.link e' act (subst (λ (z : Streamer L). Writes acts z (drop taken bytes) n lost r) eu w))

    pub ends_lost : (u : Streamer L) → turn_of q.view (length (take (length bytes - taken) (drop taken bytes))) ≡ hand
        → PutsOutgoing acts q false u.link → u ≡ handed_over q false u.link → Writes acts p bytes taken true u
    ends_lost u e act eu =
        let e' = subst (λ (l : List ℕ). turn_of q.view (length l) ≡ hand) (rest taken) e in
        let w = go 0 true (handed_over q false u.link) (loses u.link e' act) in
        subst (λ (z : Streamer L). Writes acts p bytes taken true z) (sym eu) (subst (λ (k : ℕ). Writes acts p bytes k true (handed_over q false u.link)) (add-zero taken) w)

    pub ends_stopped : (u : Streamer L) → turn_of q.view (length (take (length bytes - taken) (drop taken bytes))) ≡ stop → u ≡ q → Writes acts p bytes taken false u
    ends_stopped u e eu =
        let e' = subst (λ (l : List ℕ). turn_of q.view (length l) ≡ stop) (rest taken) e in
        let w = go 0 false q (stops e') in
        subst (λ (z : Streamer L). Writes acts p bytes taken false z) (sym eu) (subst (λ (k : ℕ). Writes acts p bytes k false q) (add-zero taken) w)

pub amount_le : (v : View) (n : ℕ) → amount v n ≤ n
amount_le v n = omega arith
