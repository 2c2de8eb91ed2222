-- One turn of the loops over replicas. Assumes nothing.
use Rattle.std.proofs.Common.{◌≡◌, ℕ, zero, suc, ◌+◌, ◌<◌, ◌≤◌, true, leb, List, [], ◌∷◌, ◌++◌, map, length, get_or, take, drop, set, vec_items, vec_len, vec_capacity, sym, ap, ◌∙◌, add-zero, arith}
use Rattle.std.proofs.lemmas.List.{take_more, take_more_set, map-append, drop-drop, drop-set-lt, get_or-drop}
use Rattle.std.proofs.lemmas.Bool.{and_parts, leb-true}
use Rattle.bench.specs.Replicas.{Bytes, copies, roomy}

pub room_at : (vs : List Bytes) (n i : ℕ) (x : Bytes) → roomy n vs ≡ true → i < length vs → x ≡ get_or vs i x → vec_len x + n ≤ vec_capacity x
room_at [] n i x r h e = absurd (omega arith)
room_at (v ∷ vs) n zero x r h e = leb-true _ _ (ap (λ z. leb (vec_len z + n) (vec_capacity z)) e ∙ (and_parts _ _ r).0)
room_at (v ∷ vs) n (suc i) x r h e = room_at vs n i x (and_parts _ _ r).1 (omega arith) e

-- the first i replicas of `es` have more bytes in `rs`, the others are as they were
module _ (rs es : List Bytes) (more : List ℕ) (i : ℕ) (x v : Bytes)
    (done : copies (take i rs) ≡ map (λ b. b ++ more) (copies (take i es))) (left : drop i rs ≡ drop i es) (long : length rs ≡ length es)
    (h : i < length es) (e : x ≡ get_or rs i x) where
  pub same_there : x ≡ get_or es i x
  same_there = e ∙ sym (at rs) ∙ ap (λ z. get_or z 0 x) left ∙ at es
    where
      at : (vs : List Bytes) → get_or (drop i vs) 0 x ≡ get_or vs i x
      at vs = get_or-drop i vs 0 x ∙ ap (λ z. get_or vs z x) (add-zero i)

  pub grown : vec_items v ≡ vec_items x ++ more → copies (take (i + 1) (set rs i v)) ≡ map (λ b. b ++ more) (copies (take (i + 1) es))
  grown q =
      ap copies (take_more_set rs i v (omega (arith, long)))
      ∙ map-append vec_items (take i rs) (v ∷ [])
      ∙ (λ k. done k ++ q k ∷ [])
      ∙ ap (λ z. map (λ b. b ++ more) (copies (take i es)) ++ (vec_items z ++ more) ∷ []) same_there
      ∙ sym (
      ap (λ z. map (λ b. b ++ more) (copies z)) (take_more es i x h)
      ∙ ap (map (λ b. b ++ more)) (map-append vec_items (take i es) (get_or es i x ∷ []))
      ∙ map-append (λ b. b ++ more) (copies (take i es)) (vec_items (get_or es i x) ∷ [])
      )

  pub kept_left : drop (i + 1) (set rs i v) ≡ drop (i + 1) es
  kept_left = drop-set-lt (i + 1) rs i v (omega arith) ∙ sym (drop-drop 1 i rs) ∙ ap (drop 1) left ∙ drop-drop 1 i es
