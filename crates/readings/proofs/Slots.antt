-- The numbers of a line, one by one. Assumes nothing.
use Rattle.std.proofs.Common.{◌≡◌, ℕ, ◌+◌, ◌<◌, ◌≤◌, List, [], ◌∷◌, ◌++◌, length, get_or, take, drop, set, Ok, Err, Result, sym, refl, ap, ◌∙◌, arith}
use Rattle.std.proofs.lemmas.List.{append_assoc, append-nil, at_drop_more, take_more_set, drop_all, length-set, take_all}
use Rattle.wire.specs.Read.{and_then}
use Rattle.readings.specs.declared.number.LineError.{LineError}
use Rattle.readings.specs.declared.number.Slot.{Slot}
use Rattle.readings.specs.Line.{slot_at, slots_at}

-- what is read behind the numbers in hand
abbrev pub behind : List ℕ → Result (List ℕ) LineError → Result (List ℕ) LineError
behind ns r = and_then r (λ ms. Ok (ns ++ ms))

-- the first i numbers stand in vs, and the others begin at `at`
pub record Filled (ss : List Slot) (line : List ℕ) (i at : ℕ) (vs : List ℕ) : Type 0 where
  pub value : behind (take i vs) (slots_at (drop i ss) at line) ≡ slots_at ss 0 line
  pub within : at ≤ length line
  pub long : length vs ≡ length ss

pub begins : (ss : List Slot) (line vs : List ℕ) → length vs ≡ length ss → Filled ss line 0 0 vs
begins ss line vs e = record { value = go (slots_at ss 0 line); within = omega arith; long = e }
  where
    go : (r : Result (List ℕ) LineError) → behind [] r ≡ r
    go (Ok ns) = refl
    go (Err e) = refl

behind_more : (ns : List ℕ) (n : ℕ) (r : Result (List ℕ) LineError) → behind (ns ++ n ∷ []) r ≡ behind ns (and_then r (λ ms. Ok (n ∷ ms)))
behind_more ns n (Ok ms) = ap Ok (append_assoc ns (n ∷ []) ms)
behind_more ns n (Err e) = refl

module _ {ss : List Slot} {line : List ℕ} {i at : ℕ} {vs : List ℕ} (f : Filled ss line i at vs) (s : Slot) (h : i < length ss) where
  here : behind (take i vs) (and_then (slot_at (get_or ss i s) at line) (λ x. and_then (slots_at (drop (i + 1) ss) x.1 line) (λ ns. Ok (x.0 ∷ ns)))) ≡ slots_at ss 0 line
  here = sym (ap (behind (take i vs)) (at_drop_more (λ z. slots_at z at line) ss i s h)) ∙ f.value

  pub goes : (n next : ℕ) → slot_at (get_or ss i s) at line ≡ Ok (n, next) → next ≤ length line → Filled ss line (i + 1) next (set vs i n)
  goes n next e w = record {
    value =
        ap (λ z. behind z (slots_at (drop (i + 1) ss) next line)) (take_more_set vs i n (omega (arith, f.long)))
        ∙ behind_more (take i vs) n (slots_at (drop (i + 1) ss) next line)
        ∙ sym (ap (λ z. behind (take i vs) (and_then z (λ x. and_then (slots_at (drop (i + 1) ss) x.1 line) (λ ns. Ok (x.0 ∷ ns))))) e)
        ∙ here;
    within = w;
    long = length-set vs i n ∙ f.long;
  }

  pub fails : (e : LineError) → slot_at (get_or ss i s) at line ≡ Err e → Err e ≡ slots_at ss 0 line
  fails e q = sym (ap (λ z. behind (take i vs) (and_then z (λ x. and_then (slots_at (drop (i + 1) ss) x.1 line) (λ ns. Ok (x.0 ∷ ns))))) q) ∙ here

pub done : {ss : List Slot} {line : List ℕ} {i at : ℕ} {vs : List ℕ} → Filled ss line i at vs → length ss ≤ i → Ok vs ≡ slots_at ss 0 line
done {ss} {line} {i} {at} {vs} f h =
    ap Ok (sym (append-nil vs) ∙ ap (λ z. z ++ []) (sym (take_all i vs (omega (arith, f.long)))))
    ∙ sym (ap (λ z. behind (take i vs) (slots_at z at line)) (drop_all i ss h))
    ∙ f.value
