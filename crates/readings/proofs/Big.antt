-- Numbers with their highest octet first. Assumes nothing.
use Rattle.std.proofs.Common.{◌≡◌, ℕ, zero, suc, ◌+◌, ◌*◌, ◌/◌, ◌%◌, ◌^◌, ◌<◌, ◌≤◌, List, [], ◌∷◌, ◌++◌, length, get_or, take, sym, refl, ap, ◌∙◌, ⊎_elim, mul-suc, add-one, arith}
use native.Mathlib.Nat.{div-div-eq-div-mul}
use Rattle.std.specs.Int.Digits.{number_from_digits}
use Rattle.std.proofs.lemmas.Int.Digits.{number_push}
use Rattle.std.proofs.lemmas.Nat.{pow-add}
use Rattle.std.proofs.lemmas.List.{append_assoc, length-append, take_at, drop_at}
use denote.Param.Members.{Mut}
use Rattle.std.specs.List.{flat_map}
use Rattle.std.specs.Fn.{Called}
use Rattle.std.specs.Array.{IsFromFnResultFrom, IsFromFnResult, IsMapOf}
use Rattle.std.proofs.lemmas.Bool.{cases_eq}
use Rattle.wire.specs.Octets.{big}
use Rattle.readings.specs.Line.{span}
use Rattle.readings.specs.Record.{bigs, big_at, bigs_at}

-- the octets of a number
pub big_8 : (x : ℕ) → (x / 72057594037927936 % 256) ∷ (x / 281474976710656 % 256) ∷ (x / 1099511627776 % 256) ∷ (x / 4294967296 % 256) ∷ (x / 16777216 % 256) ∷ (x / 65536 % 256) ∷ (x / 256 % 256) ∷ (x % 256) ∷ [] ≡ big 8 x
big_8 x = simp div-div-eq-div-mul

pub length_big : (n x : ℕ) → length (big n x) ≡ n
length_big zero x = refl
length_big (suc n) x = length-append (big n (x / 256)) (x % 256 ∷ []) ∙ omega (arith, length_big n (x / 256))

-- a number is read back from its octets
pub number_big : (n x : ℕ) → x < 256 ^ n → number_from_digits 256 (big n x) ≡ x
number_big zero x h = omega arith
number_big (suc n) x h =
    let l : x / 256 < 256 ^ n = omega (arith, pow-add 256 n 1, add-one n, ap (λ z. 256 ^ z) (add-one n)) in
    number_push 256 (big n (x / 256)) (x % 256) ∙ ap (λ z. z * 256 + x % 256) (number_big n (x / 256) l) ∙ omega arith

-- numbers one after another
pub length_bigs : (n : ℕ) (xs : List ℕ) → length (bigs n xs) ≡ n * length xs
length_bigs n [] = omega arith
length_bigs n (x ∷ xs) = length-append (big n x) (bigs n xs) ∙ omega (arith, length_big n x, length_bigs n xs, mul-suc n (length xs))

-- each of the numbers is below b
abbrev pub Below : ℕ → List ℕ → Type 0
Below b [] = Unit {0}
Below b (x ∷ xs) = (x < b) × Below b xs

pub below_each : (b : ℕ) (xs : List ℕ) → ((k : ℕ) → k < length xs → get_or xs k 0 < b) → Below b xs
below_each b [] f = tt
below_each b (x ∷ xs) f = (f 0 (omega arith), below_each b xs (λ k l. f (suc k) (omega arith)))

-- numbers are read back from their octets, behind others
pub bigs_back : (n : ℕ) (xs p q : List ℕ) (at : ℕ) → length p ≡ at → Below (256 ^ n) xs → bigs_at n (length xs) at (p ++ (bigs n xs ++ q)) ≡ xs
unfolding big_at
bigs_back n [] p q at e b = refl
bigs_back n (x ∷ xs) p q at e b =
    let rest = bigs n xs ++ q in
    let w : p ++ ((big n x ++ bigs n xs) ++ q) ≡ (p ++ big n x) ++ rest = ap (λ z. p ++ z) (append_assoc (big n x) (bigs n xs) q) ∙ sym (append_assoc p (big n x) rest) in
    let here : big_at n at (p ++ ((big n x ++ bigs n xs) ++ q)) ≡ x =
    ap (λ z. number_from_digits 256 (take n z)) (drop_at p ((big n x ++ bigs n xs) ++ q) at e ∙ append_assoc (big n x) (bigs n xs) q)
    ∙ ap (number_from_digits 256) (take_at (big n x) rest n (length_big n x))
    ∙ number_big n x b.0 in
    let there = ap (bigs_at n (length xs) (at + n)) w
    ∙ bigs_back n xs (p ++ big n x) q (at + n) (length-append p (big n x) ∙ omega (arith, length_big n x, e)) b.1 in
    (λ i. here i ∷ there i)

-- octets one by one
span_shift : (i k b : ℕ) (bs : List ℕ) → span (i + 1) k (b ∷ bs) ≡ span i k bs
span_shift i zero b bs = refl
span_shift i (suc k) b bs = (λ j. get_or (b ∷ bs) (add-one i j) 0 ∷ span_shift (i + 1) k b bs j)

span_all : (n : ℕ) (bs : List ℕ) → length bs ≡ n → span 0 n bs ≡ bs
span_all zero [] e = refl
span_all zero (b ∷ bs) e = absurd (omega arith)
span_all (suc n) [] e = absurd (omega arith)
span_all (suc n) (b ∷ bs) e = ap (λ z. b ∷ z) (span_shift 0 n b bs ∙ span_all n bs (omega arith))

pub number_2 : (bs : List ℕ) → length bs ≡ 2 → get_or bs 0 0 * 256 + get_or bs 1 0 ≡ number_from_digits 256 bs
number_2 bs e = let h : get_or bs 0 0 * 256 + get_or bs 1 0 ≡ number_from_digits 256 (span 0 2 bs) = omega arith in h ∙ ap (number_from_digits 256) (span_all 2 bs e)

pub number_4 : (bs : List ℕ) → length bs ≡ 4 → get_or bs 0 0 * 16777216 + get_or bs 1 0 * 65536 + get_or bs 2 0 * 256 + get_or bs 3 0 ≡ number_from_digits 256 bs
number_4 bs e =
    let h : get_or bs 0 0 * 16777216 + get_or bs 1 0 * 65536 + get_or bs 2 0 * 256 + get_or bs 3 0 ≡ number_from_digits 256 (span 0 4 bs) = omega arith in
    h ∙ ap (number_from_digits 256) (span_all 4 bs e)

pub number_8 : (bs : List ℕ) → length bs ≡ 8
    → get_or bs 0 0 * 72057594037927936 + get_or bs 1 0 * 281474976710656 + get_or bs 2 0 * 1099511627776 + get_or bs 3 0 * 4294967296 + get_or bs 4 0 * 16777216 + get_or bs 5 0 * 65536 + get_or bs 6 0 * 256 + get_or bs 7 0 ≡ number_from_digits 256 bs
number_8 bs e =
    let h : get_or bs 0 0 * 72057594037927936 + get_or bs 1 0 * 281474976710656 + get_or bs 2 0 * 1099511627776 + get_or bs 3 0 * 4294967296 + get_or bs 4 0 * 16777216 + get_or bs 5 0 * 65536 + get_or bs 6 0 * 256 + get_or bs 7 0 ≡ number_from_digits 256 (span 0 8 bs) = omega arith in
    h ∙ ap (number_from_digits 256) (span_all 8 bs e)

-- numbers, each as its octets, joined
pub bigs_joined : (n : ℕ) (xs : List ℕ) (ys : List (List ℕ)) → length ys ≡ length xs → ((k : ℕ) → k < length xs → get_or ys k [] ≡ big n (get_or xs k 0)) → flat_map (λ y. y) ys ≡ bigs n xs
bigs_joined n [] [] e f = refl
bigs_joined n [] (y ∷ ys) e f = absurd (omega arith)
bigs_joined n (x ∷ xs) [] e f = absurd (omega arith)
bigs_joined n (x ∷ xs) (y ∷ ys) e f =
    let here : y ≡ big n x = f 0 (omega arith) in
    (λ i. here i ++ bigs_joined n xs ys (omega arith) (λ k l. f (suc k) (omega arith)) i)

-- numbers read one after another
pub bigs_read : (n m at : ℕ) (bs ys : List ℕ) → length ys ≡ m → ((k : ℕ) → k < m → get_or ys k 0 ≡ big_at n (at + n * k) bs) → ys ≡ bigs_at n m at bs
bigs_read n zero at bs [] e f = refl
bigs_read n zero at bs (y ∷ ys) e f = absurd (omega arith)
bigs_read n (suc m) at bs [] e f = absurd (omega arith)
bigs_read n (suc m) at bs (y ∷ ys) e f =
    let z : at + n * 0 ≡ at = omega arith in
    let here : y ≡ big_at n at bs = f 0 (omega arith) ∙ ap (λ a. big_at n a bs) z in
    (λ i. here i ∷ bigs_read n m (at + n) bs ys (omega arith) (λ k l. let w : at + n * suc k ≡ at + n + n * k = omega (arith, mul-suc n k) in f (suc k) (omega arith) ∙ ap (λ a. big_at n a bs) w) i)

-- `map` to the octets of each number, which says that the number is within its type
module _ {F : Type 0} (g : Mut F (ℕ × Unit {0}) (List ℕ)) (f : F) (n b m : ℕ) (xs : List ℕ) (ys : List (List ℕ)) (e : length xs ≡ m) (h : IsMapOf g f xs ys m) (step : (p q : F) (x : ℕ) (y : List ℕ) → Called g p (x, tt) y q → (y ≡ big n x) × (x < b)) where
  each : (k : ℕ) → k < length xs → (get_or ys k [] ≡ big n (get_or xs k 0)) × (get_or xs k 0 < b)
  each k l = let c = h.at k 0 [] (omega arith) in step c.0 c.1 (get_or xs k 0) (get_or ys k []) c.2

  pub bigs_mapped : flat_map (λ y. y) ys ≡ bigs n xs
  bigs_mapped = bigs_joined n xs ys (h.long ∙ sym e) (λ k l. (each k l).0)

  pub below_mapped : Below b xs
  below_mapped = below_each b xs (λ k l. (each k l).1)

-- `array::from_fn`, where I holds of the closure from one call to the next
module _ {F : Type 0} (g : Mut F (ℕ × Unit {0}) ℕ) (I : F → Type 0) (m : ℕ) (h : ℕ → ℕ) (step : (p q : F) (i y : ℕ) → i < m → I p → Called g p (i, tt) y q → (y ≡ h i) × I q) where
  from_fn_at : (n i : ℕ) (f : F) (ys : List ℕ) → i + n ≤ m → I f → IsFromFnResultFrom g f ys i n → (k : ℕ) → i ≤ k → k < i + n → get_or ys k 0 ≡ h k
  from_fn_at zero i f ys w a c k l u = absurd (omega arith)
  from_fn_at (suc n) i f ys w a c k l u =
      let s = step f c.0 i c.1 (omega arith) a c.3 in
      ⊎_elim
      (λ e. ap (λ z. get_or ys z 0) e ∙ c.2.1 0 ∙ s.0 ∙ ap h (sym e))
      (λ ne. from_fn_at n (i + 1) c.0 ys (omega arith) s.1 c.4 k (omega arith) (omega arith))
      (cases_eq k i)

  pub from_fn_gives : (f : F) (ys : List ℕ) → I f → IsFromFnResult g f ys m → (k : ℕ) → k < m → get_or ys k 0 ≡ h k
  from_fn_gives f ys a c k l = from_fn_at m 0 f ys (omega arith) a c.each k (omega arith) (omega arith)

-- some numbers of a list, one after another
pub span_read : (m at : ℕ) (ns ys : List ℕ) → length ys ≡ m → ((k : ℕ) → k < m → get_or ys k 0 ≡ get_or ns (at + k) 0) → ys ≡ span at m ns
span_read zero at ns [] e f = refl
span_read zero at ns (y ∷ ys) e f = absurd (omega arith)
span_read (suc m) at ns [] e f = absurd (omega arith)
span_read (suc m) at ns (y ∷ ys) e f =
    let z : at + 0 ≡ at = omega arith in
    let here : y ≡ get_or ns at 0 = f 0 (omega arith) ∙ ap (λ a. get_or ns a 0) z in
    (λ i. here i ∷ span_read m (at + 1) ns ys (omega arith) (λ k l. let w : at + suc k ≡ at + 1 + k = omega arith in f (suc k) (omega arith) ∙ ap (λ a. get_or ns a 0) w) i)
