-- What is found in a message by its tag, where the message is written from fields. Assumes nothing.
use Rattle.std.proofs.Common.{◌≡◌, ℕ, List, [], ◌∷◌, ◌++◌, map, Ok, Err, Result, refl, ap, ◌∙◌, arith}
use Rattle.wire.specs.declared.field.DecodeError.{DecodeError}
use Rattle.wire.specs.declared.field.Fault.{Fault}
use Rattle.wire.specs.Fields.{WireField, encode_all}
use Rattle.wire.specs.Find.{pick_part, pick_number, read_or, found, part_of, number_of}
use Rattle.wire.specs.Laws.{Sound, AllSound, merge_all, unplaced}
use Rattle.wire.specs.Read.{and_then, decoded}
use Rattle.wire.proofs.Back.{decode_back}

-- a message that is read without a fault
pub well_read_lem : {S : Type 0} (r : Result S DecodeError) (s : S) → unplaced r ≡ Ok s → r ≡ Ok s
well_read_lem (Ok t) s h = cc
well_read_lem (Err e) s h = let z : ◌≡◌ {A = ℕ} 0 1 = cc in absurd (omega arith)

module _ {S : Type 0} (merge : S → WireField → Result S Fault) where
  pub decoded_is : (none s : S) (fs : List WireField) → AllSound fs → merge_all merge none fs ≡ Ok s → decoded merge none (encode_all fs) ≡ Ok s
  decoded_is none s fs sound h = well_read_lem _ s (decode_back merge none fs sound ∙ h)

  -- rows that change nothing
  pub rows_skipped : {T : Type 0} (f : T → WireField) (s : S) → ((x : T) → merge s (f x) ≡ Ok s) → (rows : List T) (fs : List WireField) → merge_all merge s (map f rows ++ fs) ≡ merge_all merge s fs
  rows_skipped f s h [] fs = refl
  rows_skipped f s h (x ∷ rows) fs = ap (λ z. and_then z (λ t. merge_all merge t (map f rows ++ fs))) (h x) ∙ rows_skipped f s h rows fs

pub part_found : (tag : ℕ) (fs : List WireField) (bs : List ℕ) → AllSound fs → merge_all (λ s f. Ok (pick_part tag s f)) [] fs ≡ Ok bs → part_of tag (encode_all fs) ≡ bs
unfolding found
part_found tag fs bs sound h = ap (read_or []) (decoded_is (λ s f. Ok (pick_part tag s f)) [] bs fs sound h)

pub number_found : (tag : ℕ) (fs : List WireField) (n : ℕ) → AllSound fs → merge_all (λ s f. Ok (pick_number tag s f)) 0 fs ≡ Ok n → number_of tag (encode_all fs) ≡ n
unfolding found
number_found tag fs n sound h = ap (read_or 0) (decoded_is (λ s f. Ok (pick_number tag s f)) 0 n fs sound h)

-- fields one after another, and a field for each row
pub sound_join : (fs gs : List WireField) → AllSound fs → AllSound gs → AllSound (fs ++ gs)
sound_join [] gs a b = b
sound_join (f ∷ fs) gs a b = (a.0, sound_join fs gs a.1 b)

pub sound_rows : {T : Type 0} (f : T → WireField) → ((x : T) → Sound (f x)) → (rows : List T) → AllSound (map f rows)
sound_rows f h [] = tt
sound_rows f h (x ∷ rows) = (h x, sound_rows f h rows)
