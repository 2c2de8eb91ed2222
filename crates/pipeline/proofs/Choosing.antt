-- The places of a chosen datanode and its source are places of the list. Assumes nothing.
use Rattle.std.proofs.Common.{◌≡◌, ℕ, ◌+◌, ◌-◌, ◌<◌, ◌≤◌, Bool, true, false, cond, ltb, List, [], ◌∷◌, length, Some, None, Ok, Err, Option, sym, refl, ap, arith, ltb-true}
use Rattle.proto.specs.declared.datanode.Datanode.{Datanode}
use Rattle.replace.specs.declared.choice.NoChoice.TheVariants.{Source}
use Rattle.replace.specs.Choice.{any_same, first_new, with_source, choice_of}

-- the position of a new one, counted from k
new_at : (k i size : ℕ) (rest : Option ℕ) (b : Bool) → (rest ≡ Some i → (k + 1 ≤ i) × (i < k + 1 + size)) → cond b rest (Some k) ≡ Some i → (k ≤ i) × (i < k + (size + 1))
new_at k i size rest true go e = let h = go e in (omega (arith, h.0), omega (arith, h.1))
new_at k i size rest false go e = let h : i ≡ k = cc in (omega arith, omega arith)

new_from : (k : ℕ) (ns os : List Datanode) (i : ℕ) → first_new k ns os ≡ Some i → (k ≤ i) × (i < k + length ns)
new_from k [] os i e = absurd (let z : ◌≡◌ {A = ℕ} 0 1 = cc in omega arith)
new_from k (n ∷ ns) os i e =
    let h = new_at k i (length ns) (first_new (k + 1) ns os) (any_same os n) (new_from (k + 1) ns os i) e in
    (h.0, omega (arith, h.1))

source_at : (size i : ℕ) (p : ℕ × ℕ) (b d : Bool) → ltb 0 i ≡ b → ltb 1 size ≡ d → i < size → cond b (Ok (i, i - 1)) (cond d (Ok (i, 1)) (Err Source)) ≡ Ok p → (p.0 < size) × (p.1 < size)
source_at size i p true d eb ed h e = let q : (i, i - 1) ≡ p = cc in let x = ap (λ z. z.0) q in let y = ap (λ z. z.1) q in (omega (arith, x), omega (arith, y))
source_at size i p false true eb ed h e = let q : (i, 1) ≡ p = cc in let x = ap (λ z. z.0) q in let y = ap (λ z. z.1) q in (omega (arith, x), omega (arith, y, ltb-true))
source_at size i p false false eb ed h e = absurd (let z : ◌≡◌ {A = ℕ} 0 1 = cc in omega arith)

source_of : (ns os : List Datanode) (o : Option ℕ) (p : ℕ × ℕ) → first_new 0 ns os ≡ o → with_source (length ns) o ≡ Ok p → (p.0 < length ns) × (p.1 < length ns)
source_of ns os None p f e = absurd (let z : ◌≡◌ {A = ℕ} 0 1 = cc in omega arith)
source_of ns os (Some i) p f e = source_at (length ns) i p (ltb 0 i) (ltb 1 (length ns)) refl refl (let h = new_from 0 ns os i f in omega (arith, h.1)) e

pub chosen : (ns os : List Datanode) (p : ℕ × ℕ) → Ok p ≡ choice_of ns os → (p.0 < length ns) × (p.1 < length ns)
chosen ns os p e = source_of ns os (first_new 0 ns os) p refl (sym e)
