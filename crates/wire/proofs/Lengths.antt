-- How long the octets of fields can be. Assumes nothing.
use Rattle.std.proofs.Common.{◌≡◌, ℕ, zero, suc, ◌+◌, ◌*◌, ◌/◌, ◌%◌, ◌<◌, ◌≤◌, ltb, List, [], ◌∷◌, map, length, ap, ⊎_elim, suc-mul, arith}
use Rattle.std.proofs.lemmas.List.{length-append}
use Rattle.std.proofs.lemmas.Bool.{cond-true, cond-false, lt-ltb, le-ltb, cases_lt}
use Rattle.wire.specs.Fields.{WireField, varint, part, groups, varint_bytes, key, encode, encode_all}
use Rattle.wire.proofs.Encoded.{varint_octets, part_octets, prefix_length, nothing}

groups_bound : (k n : ℕ) → length (groups k n) ≤ k
groups_bound zero n = omega arith
groups_bound (suc k) n =
    ⊎_elim
    (λ lt. omega (arith, ap length (cond-true (ltb n 128) (n ∷ []) ((n % 128 + 128) ∷ groups k (n / 128)) (lt-ltb n 128 lt))))
    (λ ge. omega (arith, ap length (cond-false (ltb n 128) (n ∷ []) ((n % 128 + 128) ∷ groups k (n / 128)) (le-ltb n 128 ge)), groups_bound k (n / 128)))
    (cases_lt n 128)

pub varint_bound : (n : ℕ) → length (varint_bytes n) ≤ 10
unfolding varint_bytes
varint_bound n = groups_bound 10 n

-- two octets hold what is below 16,384
pub short_bound : (n : ℕ) → n < 16384 → length (varint_bytes n) ≤ 2
unfolding varint_bytes
short_bound n h =
    ⊎_elim
    (λ lt. omega (arith, ap length (cond-true (ltb n 128) (n ∷ []) ((n % 128 + 128) ∷ groups 9 (n / 128)) (lt-ltb n 128 lt))))
    (λ ge.
    let m : n / 128 < 128 = omega arith in
    omega (arith, ap length (cond-false (ltb n 128) (n ∷ []) ((n % 128 + 128) ∷ groups 9 (n / 128)) (le-ltb n 128 ge)), ap length (cond-true (ltb (n / 128) 128) (n / 128 ∷ []) ((n / 128 % 128 + 128) ∷ groups 8 (n / 128 / 128)) (lt-ltb (n / 128) 128 m))))
    (cases_lt n 128)

-- a number of a tag whose key has k octets, and a part of at most m octets
pub number_bound : (tag k n : ℕ) → length (key tag 0) ≡ k → length (encode (varint tag n)) ≤ k + 10
number_bound tag k n e = omega (arith, varint_octets tag n, varint_bound n)

pub part_bound : (tag k m : ℕ) (bs : List ℕ) → length (varint_bytes (8 * tag + 2)) ≡ k → length bs ≤ m → m < 16384 → length (encode (part tag bs)) ≤ k + 2 + m
part_bound tag k m bs e h l = omega (arith, part_octets tag bs, prefix_length tag (length bs), short_bound (length bs) (omega arith))

pub all_length : (f : WireField) (fs : List WireField) → length (encode_all (f ∷ fs)) ≡ length (encode f) + length (encode_all fs)
unfolding encode_all
all_length f fs = length-append (encode f) (encode_all fs)

pub none_length : length (encode_all []) ≡ 0
none_length = ap length nothing

pub rows_bound : {T : Type 0} (f : T → WireField) (m : ℕ) → ((x : T) → length (encode (f x)) ≤ m) → (rows : List T) → length (encode_all (map f rows)) ≤ length rows * m
rows_bound f m h [] = omega (arith, none_length)
rows_bound f m h (x ∷ rows) = omega (arith, all_length (f x) (map f rows), h x, rows_bound f m h rows, suc-mul (length rows) m)
