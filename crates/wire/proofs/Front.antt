-- A buffer that is written from its front on. Assumes nothing.
use Rattle.std.proofs.Common.{◌≡◌, ℕ, ◌+◌, ◌/◌, ◌%◌, ◌<◌, ◌≤◌, List, [], ◌∷◌, ◌++◌, length, drop, set, sym, refl, ap, ◌∙◌, arith}
use native.Mathlib.Nat.{div-div-eq-div-mul}
use borrow.Rule.Slice.PartMut.{put_mid}
use Rattle.std.proofs.lemmas.List.{append_assoc, append-nil, length-append, take_at, drop_at, drop-drop, drop_all, drop_more, set_at}
use Rattle.wire.specs.Octets.{little, big}

-- zs is xs with its first n places written, which hold p
pub record Front (xs : List ℕ) (n : ℕ) (p zs : List ℕ) : Type 0 where
  pub is : zs ≡ p ++ drop n xs
  pub long : length p ≡ n
  pub within : n ≤ length xs

pub start : (xs : List ℕ) → Front xs 0 [] xs
start xs = record { is = refl; long = refl; within = omega arith }

module _ {xs : List ℕ} {n : ℕ} {p zs : List ℕ} (f : Front xs n p zs) where
  -- a write of ys to `zs[n..m]`
  pub put : (k m : ℕ) (ys : List ℕ) → length ys ≡ k → n + k ≡ m → m ≤ length xs → Front xs m (p ++ ys) (put_mid n k zs ys)
  put k m ys e j h = record {
    is =
        ap (λ z. put_mid n k z ys) f.is
        ∙ (λ i. take_at p (drop n xs) n f.long i ++ (ys ++ drop k (drop_at p (drop n xs) n f.long i)))
        ∙ ap (λ z. p ++ (ys ++ z)) (drop-drop k n xs ∙ ap (λ i. drop i xs) j)
        ∙ sym (append_assoc p ys (drop m xs));
    long = length-append p ys ∙ omega (arith, f.long);
    within = h;
  }

  -- a write of one byte
  pub one : (y : ℕ) → n < length xs → Front xs (n + 1) (p ++ y ∷ []) (set zs n y)
  one y h = record {
    is =
        ap (λ z. set z n y) (f.is ∙ ap (λ z. p ++ z) (drop_more xs n 0 h))
        ∙ set_at p _ _ y n f.long
        ∙ sym (append_assoc p (y ∷ []) (drop (n + 1) xs));
    long = length-append p (y ∷ []) ∙ omega (arith, f.long);
    within = omega arith;
  }

  -- the same, where what is written has another name
  pub renamed : (q : List ℕ) → p ≡ q → Front xs n q zs
  renamed q e = record { is = f.is ∙ ap (λ z. z ++ drop n xs) e; long = ap length (sym e) ∙ f.long; within = f.within }

  pub done : length xs ≡ n → zs ≡ p
  done e = f.is ∙ ap (λ z. p ++ z) (drop_all n xs (omega arith)) ∙ append-nil p

-- the bytes that `to_le_bytes` gives
pub little_8 : (x : ℕ) → (x % 256) ∷ (x / 256 % 256) ∷ (x / 65536 % 256) ∷ (x / 16777216 % 256) ∷ (x / 4294967296 % 256) ∷ (x / 1099511627776 % 256) ∷ (x / 281474976710656 % 256) ∷ (x / 72057594037927936 % 256) ∷ [] ≡ little 8 x
little_8 x = simp div-div-eq-div-mul

pub little_4 : (x : ℕ) → (x % 256) ∷ (x / 256 % 256) ∷ (x / 65536 % 256) ∷ (x / 16777216 % 256) ∷ [] ≡ little 4 x
little_4 x = simp div-div-eq-div-mul

pub big_4 : (x : ℕ) → (x / 16777216 % 256) ∷ (x / 65536 % 256) ∷ (x / 256 % 256) ∷ (x % 256) ∷ [] ≡ big 4 x
big_4 x = simp div-div-eq-div-mul

pub big_2 : (x : ℕ) → (x / 256 % 256) ∷ (x % 256) ∷ [] ≡ big 2 x
big_2 x = refl
