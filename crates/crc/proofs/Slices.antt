-- The register after a block, as entries of the table.
-- Assumes nothing.
use Rattle.std.proofs.Common.{◌≡◌, ℕ, suc, ◌+◌, ◌*◌, ◌/◌, ◌%◌, ◌^◌, ◌<◌, ◌≤◌, List, [], ◌∷◌, ◌++◌, length, get_or, take, drop, sym, refl, ap, ◌∙◌, ap₂, zero-add, arith, take-add}
use lib.Bits.{bit_xor, bit_and, xor_assoc, xor_comm, xor_self, xor_zero_r, xor_shifted, and_mask}
use Rattle.std.proofs.lemmas.Nat.{mod_below, shr-shr}
use Rattle.std.proofs.lemmas.List.{take_all, length-take, length-drop, length-append, drop-drop, drop_more, drop_all}
use Rattle.crc.specs.Crc.{steps, after, entry, table_of}
use Rattle.crc.specs.Laws.{packed}
use Rattle.crc.proofs.Rows.{byte_out, table_at}
use Rattle.crc.proofs.Linear.{steps_xor, steps_add, after_append, after_is}

last : (p k w : ℕ) → steps p (8 * (k + 1)) (w / 65536 / 256) ≡ entry p k (w / 16777216)
unfolding entry
last p k w = ap (steps p (8 * (k + 1))) (shr-shr w 16 8)

-- four bytes leave a word
pub four_out : (p k w : ℕ) → steps p (8 * (k + 4)) w ≡ bit_xor (bit_xor (bit_xor (entry p (k + 3) (w % 256)) (entry p (k + 2) (w / 256 % 256))) (entry p (k + 1) (w / 65536 % 256))) (entry p k (w / 16777216))
four_out p k w =
    out 3 w refl
    ∙ ap (bit_xor (entry p (k + 3) (w % 256)))
    (out 2 (w / 256) refl ∙ ap (bit_xor (entry p (k + 2) (w / 256 % 256))) (out 1 (w / 65536) (shr-shr w 8 8) ∙ ap (bit_xor (entry p (k + 1) (w / 65536 % 256))) (last p k w)))
    ∙ sym (xor_assoc (entry p (k + 3) (w % 256)) (entry p (k + 2) (w / 256 % 256)) (bit_xor (entry p (k + 1) (w / 65536 % 256)) (entry p k (w / 16777216))))
    ∙ sym (xor_assoc (bit_xor (entry p (k + 3) (w % 256)) (entry p (k + 2) (w / 256 % 256))) (entry p (k + 1) (w / 65536 % 256)) (entry p k (w / 16777216)))
  where
    out : (j u : ℕ) {x : ℕ} → x ≡ u → steps p (8 * (k + suc j)) x ≡ bit_xor (entry p (k + j) (u % 256)) (steps p (8 * (k + j)) (u / 256))
    out j u e = ap₂ (λ (m y : ℕ). steps p (8 * m) y) (omega arith) e ∙ byte_out p (k + j) u

-- ---- a block

zero_in : (p : ℕ) (bs : List ℕ) (v : ℕ) → after p v bs ≡ bit_xor (steps p (8 * length bs) v) (after p 0 bs)
zero_in p bs v =
    after_is p v bs ∙ steps_xor p (8 * length bs) v (packed bs) ∙ ap (bit_xor (steps p (8 * length bs) v)) (sym (after_is p 0 bs))

-- four bytes go in as one word, and the others into a register of 0
pub word_in : (p v n : ℕ) (ws bs : List ℕ) → length ws ≡ 4 → length bs ≡ n → after p v (ws ++ bs) ≡ bit_xor (steps p (8 * (n + 4)) (bit_xor v (packed ws))) (after p 0 bs)
word_in p v n ws bs four e =
    after_append p v ws bs
    ∙ zero_in p bs (after p v ws)
    ∙ ap (λ (x : ℕ). bit_xor x (after p 0 bs))
    (ap₂ (λ (m x : ℕ). steps p (8 * m) x) e (after_is p v ws ∙ ap (λ (m : ℕ). steps p (8 * m) (bit_xor v (packed ws))) four)
    ∙ sym (steps_add p 32 (8 * n) (bit_xor v (packed ws)))
    ∙ ap (λ (m : ℕ). steps p m (bit_xor v (packed ws))) more)
  where
    more : 32 + 8 * n ≡ 8 * (n + 4)
    more = omega arith

-- sixteen bytes, as four words
pub block_in : (p v : ℕ) (a b c d : List ℕ) → length a ≡ 4 → length b ≡ 4 → length c ≡ 4 → length d ≡ 4 → after p v (a ++ (b ++ (c ++ d))) ≡ bit_xor (steps p 128 (bit_xor v (packed a))) (bit_xor (bit_xor (steps p 96 (packed b)) (steps p 64 (packed c))) (steps p 32 (packed d)))
block_in p v a b c d ea eb ec ed =
    word_in p v 12 a (b ++ (c ++ d)) ea (simp length-append (omega arith))
    ∙ ap (bit_xor (steps p 128 (bit_xor v (packed a))))
    (word_in p 0 8 b (c ++ d) eb (simp length-append (omega arith))
    ∙ ap (bit_xor (steps p 96 (packed b))) (word_in p 0 4 c d ec ed ∙ ap (bit_xor (steps p 64 (packed c))) (after_is p 0 d ∙ ap (λ (m : ℕ). steps p (8 * m) (packed d)) ed))
    ∙ sym (xor_assoc (steps p 96 (packed b)) (steps p 64 (packed c)) (steps p 32 (packed d))))

-- ---- words and blocks of a list

-- a front of n + 4, from i on
front : (xs : List ℕ) (i n : ℕ) → take (4 + n) (drop i xs) ≡ take 4 (drop i xs) ++ take n (drop (i + 4) xs)
front xs i n = take-add 4 n (drop i xs) ∙ ap (λ (r : List ℕ). take 4 (drop i xs) ++ take n r) (drop-drop 4 i xs)

pub quarters : (xs : List ℕ) (i : ℕ) → take 16 (drop i xs) ≡ take 4 (drop i xs) ++ (take 4 (drop (i + 4) xs) ++ (take 4 (drop (i + 8) xs) ++ take 4 (drop (i + 12) xs)))
quarters xs i =
    front xs i 12
    ∙ ap (λ (r : List ℕ). take 4 (drop i xs) ++ r)
    (front xs (i + 4) 8
    ∙ ap (λ (r : List ℕ). take 4 (drop (i + 4) xs) ++ r)
    (ap (λ (j : ℕ). take 8 (drop j xs)) at8
    ∙ front xs (i + 8) 4
    ∙ ap (λ (j : ℕ). take 4 (drop (i + 8) xs) ++ take 4 (drop j xs)) at12))
  where
    at8 : i + 4 + 4 ≡ i + 8
    at8 = omega arith

    at12 : i + 8 + 4 ≡ i + 12
    at12 = omega arith

four_of : (xs : List ℕ) (i : ℕ) → i + 4 ≤ length xs → take 4 (drop i xs) ≡ get_or xs i 0 ∷ get_or xs (i + 1) 0 ∷ get_or xs (i + 2) 0 ∷ get_or xs (i + 3) 0 ∷ []
four_of xs i h =
    ap (take 4) (cons i (i + 1) (omega arith) refl)
    ∙ ap (λ (r : List ℕ). get_or xs i 0 ∷ take 3 r) (cons (i + 1) (i + 2) (omega arith) (omega arith))
    ∙ ap (λ (r : List ℕ). get_or xs i 0 ∷ get_or xs (i + 1) 0 ∷ take 2 r) (cons (i + 2) (i + 3) (omega arith) (omega arith))
    ∙ ap (λ (r : List ℕ). get_or xs i 0 ∷ get_or xs (i + 1) 0 ∷ get_or xs (i + 2) 0 ∷ take 1 r) (cons (i + 3) (i + 4) (omega arith) (omega arith))
  where
    cons : (j k : ℕ) → j < length xs → j + 1 ≡ k → drop j xs ≡ get_or xs j 0 ∷ drop k xs
    cons j k lt e = drop_more xs j 0 lt ∙ ap (λ (m : ℕ). get_or xs j 0 ∷ drop m xs) e

packed_nil : packed [] ≡ 0
unfolding packed
packed_nil = refl

packed_cons : (b : ℕ) (bs : List ℕ) → b < 256 → packed (b ∷ bs) ≡ b + packed bs * 256
unfolding packed
packed_cons b bs h = xor_comm b (packed bs * 2 ^ 8) ∙ xor_shifted (packed bs) 8 b h ∙ omega arith

pub packed_four : (xs : List ℕ) (i : ℕ) → i + 4 ≤ length xs → get_or xs i 0 < 256 → get_or xs (i + 1) 0 < 256 → get_or xs (i + 2) 0 < 256 → get_or xs (i + 3) 0 < 256 → packed (take 4 (drop i xs)) ≡ get_or xs i 0 + get_or xs (i + 1) 0 * 256 + get_or xs (i + 2) 0 * 65536 + get_or xs (i + 3) 0 * 16777216
packed_four xs i h h0 h1 h2 h3 =
    ap packed (four_of xs i h)
    ∙ packed_cons (get_or xs i 0) (get_or xs (i + 1) 0 ∷ get_or xs (i + 2) 0 ∷ get_or xs (i + 3) 0 ∷ []) h0
    ∙ omega (arith, packed_cons (get_or xs (i + 1) 0) (get_or xs (i + 2) 0 ∷ get_or xs (i + 3) 0 ∷ []) h1, packed_cons (get_or xs (i + 2) 0) (get_or xs (i + 3) 0 ∷ []) h2, packed_cons (get_or xs (i + 3) 0) [] h3, packed_nil)

-- ---- what the code reads

no_steps : (p v : ℕ) → steps p 0 v ≡ v
unfolding steps
no_steps p v = refl

module _ (p : ℕ) (t : List ℕ) (is : t ≡ table_of p) where
  read : (k b : ℕ) → k < 16 → b < 256 → get_or t (k * 256 + b) 0 ≡ entry p k b
  read k b hk hb = ap (λ (l : List ℕ). get_or l (k * 256 + b) 0) is ∙ table_at p k b hk hb

  read_low : (k w : ℕ) → k < 16 → get_or t (k * 256 + bit_and w 255) 0 ≡ entry p k (w % 256)
  read_low k w hk = ap (λ (b : ℕ). get_or t (k * 256 + b) 0) (and_mask w 8) ∙ read k (w % 256) hk (mod_below w 256 (omega arith))

  pub four_read : (k w : ℕ) → k ≤ 12 → w < 2 ^ 32 → bit_xor (bit_xor (bit_xor (get_or t ((k + 3) * 256 + bit_and w 255) 0) (get_or t ((k + 2) * 256 + bit_and (w / 256) 255) 0)) (get_or t ((k + 1) * 256 + bit_and (w / 65536) 255) 0)) (get_or t (k * 256 + w / 16777216) 0) ≡ steps p (8 * (k + 4)) w
  four_read k w hk hw =
      ap₂ bit_xor
      (ap₂ bit_xor (ap₂ bit_xor (read_low (k + 3) w (omega arith)) (read_low (k + 2) (w / 256) (omega arith))) (read_low (k + 1) (w / 65536) (omega arith)))
      (read k (w / 16777216) (omega arith) (omega arith))
      ∙ sym (four_out p k w)

  pub one_read : (w : ℕ) → bit_xor (get_or t (bit_and w 255) 0) (w / 256) ≡ steps p 8 w
  one_read w =
      ap (λ (x : ℕ). bit_xor x (w / 256)) (ap (λ (j : ℕ). get_or t j 0) (sym (zero-add (bit_and w 255))) ∙ read_low 0 w (omega arith))
      ∙ sym (byte_out p 0 w ∙ ap (bit_xor (entry p 0 (w % 256))) (no_steps p (w / 256)))

-- the four words of a block
pub block_read : (p v : ℕ) (xs : List ℕ) → length xs ≡ 16 → bit_xor (steps p 128 (bit_xor v (packed (take 4 (drop 0 xs))))) (bit_xor (bit_xor (steps p 96 (packed (take 4 (drop 4 xs)))) (steps p 64 (packed (take 4 (drop 8 xs))))) (steps p 32 (packed (take 4 (drop 12 xs))))) ≡ after p v xs
block_read p v xs h =
    sym
    (ap (after p v) (sym (take_all 16 xs (omega arith)) ∙ quarters xs 0)
    ∙ block_in p v (take 4 (drop 0 xs)) (take 4 (drop 4 xs)) (take 4 (drop 8 xs)) (take 4 (drop 12 xs)) (whole 0 (omega arith)) (whole 4 (omega arith)) (whole 8 (omega arith)) (whole 12 (omega arith)))
  where
    whole : (j : ℕ) → j + 4 ≤ length xs → length (take 4 (drop j xs)) ≡ 4
    whole j le = simp (length-take, length-drop) (omega arith)

-- a byte, and then the rest
pub byte_more : (p v i : ℕ) (xs : List ℕ) → i < length xs → after p (steps p 8 (bit_xor v (get_or xs i 0))) (drop (i + 1) xs) ≡ after p v (drop i xs)
unfolding after
byte_more p v i xs h = sym (ap (after p v) (drop_more xs i 0 h))

pub none_more : (p v i : ℕ) (xs : List ℕ) → length xs ≤ i → after p v (drop i xs) ≡ v
unfolding after
none_more p v i xs h = ap (after p v) (drop_all i xs h)

-- ---- the mask

pub unmasked : (a b m : ℕ) → a ≡ bit_xor b m → bit_xor a m ≡ b
unmasked a b m e = ap (λ (x : ℕ). bit_xor x m) e ∙ xor_assoc b m m ∙ ap (bit_xor b) (xor_self m) ∙ xor_zero_r b
