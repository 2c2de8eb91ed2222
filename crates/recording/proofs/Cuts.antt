-- The data of the packets, joined. Assumes nothing.
use Rattle.std.proofs.Common.{◌≡◌, ℕ, zero, suc, ◌+◌, ◌*◌, ◌/◌, ◌%◌, ◌<◌, ◌≤◌, min, Bool, true, false, cond, eqb, List, ◌++◌, length, take, drop, sym, refl, ap, ◌∙◌, subst, mod-lt, suc-mul, add-mul, one-mul, div-add-mod', zero-mul, arith}
use Rattle.std.specs.Int.{div_ceil}
use Rattle.std.proofs.lemmas.List.{take-append-drop, take-take, drop-take, take_all}
use Rattle.std.proofs.lemmas.Bool.{cond-false, ne_eqb, eqb-true}
use Rattle.recording.specs.Cut.{packet_count, packets_joined}

take_both : (m c : ℕ) (bs : List ℕ) → take m bs ++ take c (drop m bs) ≡ take (m + c) bs
take_both m c bs =
    (λ i. sym (take-take m (m + c) bs (omega arith)) i ++ sym (drop-take m c bs) i)
    ∙ take-append-drop m (take (m + c) bs)

pub joined_is : (c n : ℕ) (bs : List ℕ) → packets_joined c n bs ≡ take (n * c) bs
joined_is c zero bs = sym (ap (λ z. take z bs) (zero-mul c))
joined_is c (suc n) bs =
    ap (λ z. z ++ take c (drop (n * c) bs)) (joined_is c n bs)
    ∙ take_both (n * c) c bs
    ∙ ap (λ z. take z bs) (sym (suc-mul n c))

-- so many packets hold all n bytes
covers : (c n : ℕ) → 0 < c → n ≤ packet_count c n * c
covers c n h =
    subst (λ z. n ≤ z * c) (sym (cond-false _ _ _ (ne_eqb c 0 (omega arith)))) (go (eqb (n % c) 0) refl)
  where
    go : (b : Bool) → eqb (n % c) 0 ≡ b → n ≤ (n / c + cond b 0 1) * c
    go true e = omega (arith, add-mul (n / c) 0 c, zero-mul c, div-add-mod' n c, eqb-true (n % c) 0 e)
    go false e = omega (arith, add-mul (n / c) 1 c, one-mul c, div-add-mod' n c, mod-lt n {m = c} h)

pub whole : (c : ℕ) (bs : List ℕ) (r : ℕ) → r ≡ packet_count c (length bs) → 0 < c → packets_joined c r bs ≡ bs
whole c bs r e h =
    ap (λ z. packets_joined c z bs) e
    ∙ joined_is c (packet_count c (length bs)) bs
    ∙ take_all (packet_count c (length bs) * c) bs (covers c (length bs) h)

-- as `div_ceil` gives it
pub count_is : (c n : ℕ) → (c ≡ 0 → ⊥) → div_ceil n c ≡ packet_count c n
count_is c n z = ap (λ r. n / c + r) (go (n % c)) ∙ sym (cond-false _ _ _ (ne_eqb c 0 z))
  where
    go : (r : ℕ) → min 1 r ≡ cond (eqb r 0) 0 1
    go zero = refl
    go (suc r) = omega arith ∙ sym (cond-false _ _ _ (ne_eqb (suc r) 0 (λ e. omega arith)))
