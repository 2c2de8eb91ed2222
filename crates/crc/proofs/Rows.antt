-- The table: its entries, and a quicker way to compute it, row from row.
-- Assumes nothing.
use Rattle.std.proofs.Common.{◌≡◌, ℕ, zero, suc, ◌+◌, ◌*◌, ◌/◌, ◌%◌, ◌^◌, ◌<◌, List, [], ◌∷◌, ◌++◌, map, length, get_or, sym, refl, ap, ◌∙◌, ap₂, le_of_suc-le-suc, not-suc-le-zero, add-zero, add-suc, suc-add, zero-add, arith}
use lib.Bits.{bit_xor, xor_comm, xor_shifted}
use Rattle.std.proofs.lemmas.Nat.{mod_below, shr_split}
use Rattle.std.proofs.lemmas.List.{get_or_append_left, get_or-append-add}
use Rattle.crc.specs.Crc.{steps, entry, row, rows, table_of}
use Rattle.crc.proofs.Linear.{steps_xor, steps_add, steps_shift}

-- ---- a byte of the register

split : (w : ℕ) → w ≡ bit_xor (w / 256 * 2 ^ 8) (w % 256)
split w = sym (xor_shifted (w / 256) 8 (w % 256) (mod_below w 256 (omega arith)) ∙ shr_split w 8)

-- one byte leaves a word, and adds its entry
pub byte_out : (p k w : ℕ) → steps p (8 * (k + 1)) w ≡ bit_xor (entry p k (w % 256)) (steps p (8 * k) (w / 256))
unfolding entry
byte_out p k w =
    ap (steps p (8 * (k + 1))) (split w)
    ∙ steps_xor p (8 * (k + 1)) (w / 256 * 2 ^ 8) (w % 256)
    ∙ xor_comm (steps p (8 * (k + 1)) (w / 256 * 2 ^ 8)) (steps p (8 * (k + 1)) (w % 256))
    ∙ ap (bit_xor (steps p (8 * (k + 1)) (w % 256)))
    (ap (λ (n : ℕ). steps p n (w / 256 * 2 ^ 8)) (eight k)
    ∙ steps_add p 8 (8 * k) (w / 256 * 2 ^ 8)
    ∙ ap (steps p (8 * k)) (steps_shift p 8 (w / 256)))
  where
    eight : (k : ℕ) → 8 * (k + 1) ≡ 8 + 8 * k
    eight k = omega arith

-- ---- the entries

row_at_lem : (p k i n j : ℕ) → j < n → get_or (row p k i n) j 0 ≡ entry p k (i + j)
unfolding row
row_at_lem p k i zero j h = absurd (not-suc-le-zero h)
row_at_lem p k i (suc n) zero h = ap (entry p k) (sym (add-zero i))
row_at_lem p k i (suc n) (suc j) h = row_at_lem p k (suc i) n j (le_of_suc-le-suc h) ∙ ap (entry p k) (suc-add i j ∙ sym (add-suc i j))

row_length : (p k i n : ℕ) → length (row p k i n) ≡ n
unfolding row
row_length p k i zero = refl
row_length p k i (suc n) = ap suc (row_length p k (suc i) n)

rows_at : (p k n j b : ℕ) → j < n → b < 256 → get_or (rows p k n) (j * 256 + b) 0 ≡ entry p (k + j) b
unfolding rows
rows_at p k zero j b hj hb = absurd (not-suc-le-zero hj)
rows_at p k (suc n) zero b hj hb =
    let lt : b < length (row p k 0 256) = omega (arith, row_length p k 0 256) in
    ap (λ (m : ℕ). get_or (row p k 0 256 ++ rows p (suc k) n) m 0) (zero-add b)
    ∙ get_or_append_left (row p k 0 256) (rows p (suc k) n) 0 b lt
    ∙ row_at_lem p k 0 256 b hb
    ∙ ap₂ (entry p) (sym (add-zero k)) (zero-add b)
rows_at p k (suc n) (suc j) b hj hb =
    let e : suc j * 256 + b ≡ length (row p k 0 256) + (j * 256 + b) = omega (arith, row_length p k 0 256) in
    ap (λ (m : ℕ). get_or (row p k 0 256 ++ rows p (suc k) n) m 0) e
    ∙ get_or-append-add (row p k 0 256) (rows p (suc k) n) (j * 256 + b) 0
    ∙ rows_at p (suc k) n j b (le_of_suc-le-suc hj) hb
    ∙ ap (λ (m : ℕ). entry p m b) (suc-add k j ∙ sym (add-suc k j))

-- row k, entry b
pub table_at : (p k b : ℕ) → k < 16 → b < 256 → get_or (table_of p) (k * 256 + b) 0 ≡ entry p k b
unfolding table_of
table_at p k b hk hb = rows_at p 0 16 k b hk hb ∙ ap (λ (m : ℕ). entry p m b) (zero-add k)

-- ---- the table, row from row: what antt computes

-- one zero byte more, by the first row
unfoldable pub onward : List ℕ → ℕ → ℕ
onward first v = bit_xor (get_or first (v % 256) 0) (v / 256)

unfoldable pub onwards : List ℕ → List ℕ → ℕ → List ℕ
onwards first r zero = []
onwards first r (suc n) = r ++ onwards first (map (onward first) r) n

unfoldable pub twice : List ℕ → List ℕ
twice first = onwards first first 16

unfoldable pub by_rows : ℕ → List ℕ
by_rows p = twice (row p 0 0 256)

no_steps : (p v : ℕ) → steps p 0 v ≡ v
unfolding steps
no_steps p v = refl

pub onward_is : (p v : ℕ) → onward (row p 0 0 256) v ≡ steps p 8 v
unfolding onward
onward_is p v =
    ap (λ (x : ℕ). bit_xor x (v / 256)) (row_at_lem p 0 0 256 (v % 256) (mod_below v 256 (omega arith)) ∙ ap (entry p 0) (zero-add (v % 256)))
    ∙ sym (byte_out p 0 v ∙ ap (bit_xor (entry p 0 (v % 256))) (no_steps p (v / 256)))

entry_more : (p k b : ℕ) → steps p 8 (entry p k b) ≡ entry p (suc k) b
unfolding entry
entry_more p k b =
    let e : 8 * (k + 1) + 8 ≡ 8 * (suc k + 1) = omega arith in
    sym (steps_add p (8 * (k + 1)) 8 b) ∙ ap (λ (n : ℕ). steps p n b) e

map_row : (p k i n : ℕ) → map (onward (row p 0 0 256)) (row p k i n) ≡ row p (suc k) i n
unfolding row
map_row p k i zero = refl
map_row p k i (suc n) = ap₂ ◌∷◌ (onward_is p (entry p k i) ∙ entry_more p k i) (map_row p k (suc i) n)

onwards_is : (p k n : ℕ) → onwards (row p 0 0 256) (row p k 0 256) n ≡ rows p k n
unfolding onwards rows
onwards_is p k zero = refl
onwards_is p k (suc n) =
    ap (λ (r : List ℕ). row p k 0 256 ++ r)
    (ap (λ (r : List ℕ). onwards (row p 0 0 256) r n) (map_row p k 0 256) ∙ onwards_is p (suc k) n)

-- what equals the table that antt computes row from row is the table
pub table_by_rows : (p : ℕ) {xs : List ℕ} → xs ≡ by_rows p → xs ≡ table_of p
unfolding by_rows twice table_of
table_by_rows p e = e ∙ onwards_is p 0 16
