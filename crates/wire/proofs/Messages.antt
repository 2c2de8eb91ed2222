-- A message read field by field: what a loop has read so far, and what each turn adds. Assumes nothing.
use Rattle.std.proofs.Common.{◌≡◌, ℕ, zero, suc, ◌+◌, ◌<◌, ◌≤◌, Bool, true, false, cond, ltb, List, length, Ok, Err, Result, MatchResult, sym, refl, ap, ◌∙◌, arith}
use Rattle.std.proofs.lemmas.Bool.{cond-true, cond-false, lt-ltb, le-ltb}
use Rattle.wire.specs.declared.field.Fault.{Fault}
use Rattle.wire.specs.declared.field.DecodeError.{DecodeError}
use Rattle.wire.specs.Fields.{WireField}
use Rattle.wire.specs.Read.{read_field, and_then, in_place, decode_from, decoded, weight}

-- the octets before `at` have led from `none` to s, and those from there on lead to the answer
pub record Sofar {S : Type 0} (merge : S → WireField → Result S Fault) (size : S → ℕ) (none : S) (bs : List ℕ) (at : ℕ) (s : S) : Type 0 where
  pub fuel : ℕ
  pub enough : length bs ≤ at + fuel
  pub leads : decode_from merge fuel s at bs ≡ decoded merge none bs
  pub small : size s ≤ at
  pub within : at ≤ length bs

-- one turn, whatever it reads
turn : {S : Type 0} (merge : S → WireField → Result S Fault) (bs : List ℕ) (at : ℕ) (s : S) (k : ℕ) → at < length bs → length bs ≤ at + k
    → (j : ℕ) × ((k ≡ suc j) × (decode_from merge k s at bs ≡ and_then (in_place at (read_field at bs)) (λ x. and_then (in_place at (merge s x.0)) (λ t. decode_from merge j t x.1 bs))))
turn merge bs at s zero h e = absurd (omega arith)
turn merge bs at s (suc k) h e = (k, (refl, cond-true (ltb at (length bs)) _ _ (lt-ltb _ _ h)))

-- what `map_err` was given, where it puts its place beside a fault
pub unmapped_value : {X : Type 0} (r : Result X Fault) (x : X) → MatchResult r (λ y. ◌≡◌ {A = Result X DecodeError} (Ok x) (Ok y)) (λ e. ⊥) → r ≡ Ok x
unmapped_value (Ok y) x h = cc
unmapped_value (Err e) x h = absurd h

module _ {S : Type 0} {merge : S → WireField → Result S Fault} {size : S → ℕ} {none : S} where
  pub begin : (bs : List ℕ) → size none ≡ 0 → Sofar merge size none bs 0 none
  unfolding decoded
  begin bs e = record { fuel = length bs; enough = omega arith; leads = refl; small = omega (arith, e); within = omega arith }

  pub end : {bs : List ℕ} {at : ℕ} {s : S} → Sofar merge size none bs at s → length bs ≤ at → Ok s ≡ decoded merge none bs
  end {bs} {at} {s} f h = stop f.fuel f.leads
    where
      stop : (k : ℕ) → decode_from merge k s at bs ≡ decoded merge none bs → Ok s ≡ decoded merge none bs
      stop zero e = e
      stop (suc k) e = sym (cond-false (ltb at (length bs)) _ _ (le-ltb _ _ h)) ∙ e

  module _ {bs : List ℕ} {at : ℕ} {s : S} (f : Sofar merge size none bs at s) (h : at < length bs) where
    pub no_field : (d : DecodeError) → in_place at (read_field at bs) ≡ Err d → Err d ≡ decoded merge none bs
    no_field d r = let t = turn merge bs at s f.fuel h f.enough in sym (t.1.1 ∙ ap (λ z. and_then z (λ x. and_then (in_place at (merge s x.0)) (λ u. decode_from merge t.0 u x.1 bs))) r) ∙ f.leads

    module _ (w : WireField) (next : ℕ) (r : read_field at bs ≡ Ok (w, next)) where
      step : (j : ℕ) (m : Result S Fault) → merge s w ≡ m → and_then (in_place at (read_field at bs)) (λ x. and_then (in_place at (merge s x.0)) (λ t. decode_from merge j t x.1 bs)) ≡ and_then (in_place at m) (λ t. decode_from merge j t next bs)
      step j m e =
          ap (λ z. and_then (in_place at z) (λ x. and_then (in_place at (merge s x.0)) (λ t. decode_from merge j t x.1 bs))) r
          ∙ ap (λ z. and_then (in_place at z) (λ t. decode_from merge j t next bs)) e

      pub more : (t : S) → merge s w ≡ Ok t → at < next → at + weight w ≤ next → next ≤ length bs → size t ≤ size s + weight w → Sofar merge size none bs next t
      more t m lt fits le small =
          let u = turn merge bs at s f.fuel h f.enough in
          record {
            fuel = u.0;
            enough = omega (arith, f.enough, u.1.0);
            leads = sym (u.1.1 ∙ step u.0 (Ok t) m) ∙ f.leads;
            small = omega (arith, f.small);
            within = le;
          }

-- a map between two states that each field respects: a message read into the one is the other's, mapped
module _ {S T : Type 0} (h : S → T) (mergeS : S → WireField → Result S Fault) (mergeT : T → WireField → Result T Fault) (same : (s : S) (f : WireField) → mergeT (h s) f ≡ and_then (mergeS s f) (λ t. Ok (h t))) where
  mapped_from : (k : ℕ) (s : S) (at : ℕ) (bs : List ℕ) → decode_from mergeT k (h s) at bs ≡ and_then (decode_from mergeS k s at bs) (λ t. Ok (h t))
  mapped_from zero s at bs = refl
  mapped_from (suc k) s at bs = turns (λ t next. mapped_from k t next bs) (ltb at (length bs)) (in_place at (read_field at bs))
    where
      joins : (next : ℕ) → ((t : S) → decode_from mergeT k (h t) next bs ≡ and_then (decode_from mergeS k t next bs) (λ u. Ok (h u))) → (m : Result S Fault)
          → and_then (in_place at (and_then m (λ t. Ok (h t)))) (λ u. decode_from mergeT k u next bs)
          ≡ and_then (and_then (in_place at m) (λ t. decode_from mergeS k t next bs)) (λ t. Ok (h t))
      joins next on (Ok t) = on t
      joins next on (Err e) = refl

      turns : ((t : S) (next : ℕ) → decode_from mergeT k (h t) next bs ≡ and_then (decode_from mergeS k t next bs) (λ u. Ok (h u))) → (b : Bool) (r : Result (WireField × ℕ) DecodeError)
          → cond b (and_then r (λ x. and_then (in_place at (mergeT (h s) x.0)) (λ u. decode_from mergeT k u x.1 bs))) (Ok (h s))
          ≡ and_then (cond b (and_then r (λ x. and_then (in_place at (mergeS s x.0)) (λ t. decode_from mergeS k t x.1 bs))) (Ok s)) (λ t. Ok (h t))
      turns on true (Ok x) = ap (λ z. and_then (in_place at z) (λ u. decode_from mergeT k u x.1 bs)) (same s x.0) ∙ joins x.1 (λ t. on t x.1) (mergeS s x.0)
      turns on true (Err e) = refl
      turns on false r = refl

  pub decoded_map : (s : S) (bs : List ℕ) → decoded mergeT (h s) bs ≡ and_then (decoded mergeS s bs) (λ t. Ok (h t))
  unfolding decoded
  decoded_map s bs = mapped_from (length bs) s 0 bs
