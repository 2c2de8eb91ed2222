-- Reading gives back what was written. Assumes nothing.
use Rattle.std.proofs.Common.{◌≡◌, ℕ, zero, suc, ◌+◌, ◌-◌, ◌*◌, ◌/◌, ◌%◌, ◌^◌, ◌<◌, ◌≤◌, true, ltb, leb, List, [], ◌∷◌, ◌++◌, length, take, Ok, Err, Result, sym, refl, ap, ◌∙◌, subst, ⊎_elim, mul-le-mul_right, mul_assoc, mul_comm, div-lt_iff_lt-mul, add-mul, pow-suc, arith, pow_mono}
use native.Mathlib.Nat.{div-add-mod}
use Rattle.std.proofs.lemmas.Nat.{pow-add}
use Rattle.std.proofs.lemmas.List.{append_assoc, append-nil, length-append, take_at, drop_at}
use Rattle.std.proofs.lemmas.Bool.{cond-true, cond-false, lt-ltb, le-ltb, le-leb, ltb-true, and_parts, cases_lt}
use Rattle.wire.specs.declared.field.Fault.{Fault}
use Rattle.wire.specs.Octets.{little, from_little}
use Rattle.wire.specs.Fields.{WireField, varint, fixed64, part, fixed32, groups, varint_bytes, key, prefix, encode, encode_all}
use Rattle.wire.specs.Read.{varint_from, varint_at, fixed_at, part_at, is_tag, named, body_at, read_field, and_then, in_place, decode_from, decoded}
use Rattle.wire.specs.Laws.{Sound, AllSound, merge_all, unplaced}
use Rattle.wire.proofs.Encoded.{prefix_is, prefix_length, varint_octets, fixed64_octets, part_octets, fixed32_octets}

-- one group's weight and the rest's
weights : (n p : ℕ) → (n % 128) * p + (n / 128) * (p * 128) ≡ n * p
weights n p =
    let a : (n / 128) * (p * 128) ≡ 128 * (n / 128) * p = omega (arith, mul_assoc (n / 128) p 128, mul_assoc 128 (n / 128) p, mul_comm (n / 128 * p) 128) in
    let b = add-mul (128 * (n / 128)) (n % 128) p in
    let c = ap (λ z. z * p) (div-add-mod n 128) in
    omega arith

module _ (n low k : ℕ) (fits : low + n * 2 ^ k < 2 ^ 64) where
  room : 128 ≤ n → k < 63
  room h =
      ⊎_elim (λ lt. lt)
      (λ ge.
      let a : 2 ^ 63 ≤ 2 ^ k = pow_mono {i = 63} ge in
      let b = mul-le-mul_right {m = 128} {n = n} (2 ^ k) h in
      absurd (omega arith))
      (cases_lt k 63)

  value_same : low + (n % 128 + 128 - 128) * 2 ^ k + (n / 128) * 2 ^ (k + 7) ≡ low + n * 2 ^ k
  value_same =
      let e : n % 128 + 128 - 128 ≡ n % 128 = omega arith in
      (λ i. low + e i * 2 ^ k + (n / 128) * pow-add 2 k 7 i) ∙ omega (arith, weights n (2 ^ k))

pub varint_from_lem : (j k low n at : ℕ) (rest : List ℕ) → 1 ≤ j → n < 2 ^ (7 * j) → low + n * 2 ^ k < 2 ^ 64
    → varint_from k low at (groups j n ++ rest) ≡ Ok (low + n * 2 ^ k, at + length (groups j n))
varint_from_lem zero k low n at rest one small fits = absurd (omega arith)
varint_from_lem (suc j) k low n at rest one small fits =
    ⊎_elim
    (λ lt.
    let e = cond-true (ltb n 128) (n ∷ []) ((n % 128 + 128) ∷ groups j (n / 128)) (lt-ltb n 128 lt) in
    ap (λ z. varint_from k low at (z ++ rest)) e
    ∙ cond-true (ltb n 128) _ _ (lt-ltb n 128 lt)
    ∙ cond-true (ltb (low + n * 2 ^ k) (2 ^ 64)) _ _ (lt-ltb _ _ fits)
    ∙ ap (λ z. Ok (low + n * 2 ^ k, at + z)) (sym (ap length e)))
    (λ ge.
    let b = n % 128 + 128 in
    let e = cond-false (ltb n 128) (n ∷ []) (b ∷ groups j (n / 128)) (le-ltb n 128 ge) in
    let big : 128 ≤ b = omega arith in
    let v = value_same n low k fits in
    let later : 1 ≤ j = more j small ge in
    let less = smaller j small in
    let l : at + 1 + length (groups j (n / 128)) ≡ at + length (b ∷ groups j (n / 128)) = omega arith in
    ap (λ z. varint_from k low at (z ++ rest)) e
    ∙ cond-false (ltb b 128) _ _ (le-ltb b 128 big)
    ∙ cond-true (ltb k 63) _ _ (lt-ltb k 63 (room n low k fits ge))
    ∙ varint_from_lem j (k + 7) (low + (b - 128) * 2 ^ k) (n / 128) (at + 1) rest later less (subst (λ z. z < 2 ^ 64) (sym v) fits)
    ∙ (λ i. Ok (v i, l i))
    ∙ ap (λ z. Ok (low + n * 2 ^ k, at + z)) (sym (ap length e)))
    (cases_lt n 128)
  where
    more : (j : ℕ) → n < 2 ^ (7 * suc j) → 128 ≤ n → 1 ≤ j
    more zero small ge = absurd (omega arith)
    more (suc j) small ge = omega arith

    smaller : (j : ℕ) → n < 2 ^ (7 * suc j) → n / 128 < 2 ^ (7 * j)
    smaller j small =
        let e : 7 * suc j ≡ 7 * j + 7 = omega arith in
        (div-lt_iff_lt-mul {k = 128} {x = n} {y = 2 ^ (7 * j)} (omega arith)).1 (omega (arith, subst (λ z. n < 2 ^ z) e small, pow-add 2 (7 * j) 7))

pub varint_back : (n : ℕ) (before rest : List ℕ) → n < 2 ^ 64 → varint_at (length before) (before ++ (varint_bytes n ++ rest)) ≡ Ok (n, length before + length (varint_bytes n))
unfolding varint_at varint_bytes
varint_back n before rest h =
    let e : 0 + n * 2 ^ 0 ≡ n = omega arith in
    ap (varint_from 0 0 (length before)) (drop_at before (groups 10 n ++ rest) (length before) refl)
    ∙ varint_from_lem 10 0 0 n (length before) rest (omega arith) (omega arith) (omega arith)
    ∙ ap (λ z. Ok (z, length before + length (groups 10 n))) e

little_back : (k n : ℕ) → n < 256 ^ k → from_little (little k n) ≡ n
little_back zero n h = omega arith
little_back (suc k) n h =
    let e = pow-suc 256 k in
    let less : n / 256 < 256 ^ k = (div-lt_iff_lt-mul {k = 256} {x = n} {y = 256 ^ k} (omega arith)).1 (omega arith) in
    ap (λ z. n % 256 + 256 * z) (little_back k (n / 256) less) ∙ omega arith

pub little_long : (k n : ℕ) → length (little k n) ≡ k
little_long zero n = refl
little_long (suc k) n = ap suc (little_long k (n / 256))

fixed_back : (k n : ℕ) (before rest : List ℕ) → n < 256 ^ k → fixed_at k (length before) (before ++ (little k n ++ rest)) ≡ Ok (n, length before + k)
fixed_back k n before rest h =
    let all = before ++ (little k n ++ rest) in
    let size = length-append before (little k n ++ rest) in
    let tail = length-append (little k n) rest in
    let fits : length before + k ≤ length all = omega (arith, little_long k n) in
    cond-true (leb (length before + k) (length all)) _ _ (le-leb _ _ fits)
    ∙ ap (λ z. Ok (from_little (take k z), length before + k)) (drop_at before (little k n ++ rest) (length before) refl)
    ∙ ap (λ z. Ok (from_little z, length before + k)) (take_at (little k n) rest k (little_long k n))
    ∙ ap (λ z. Ok (z, length before + k)) (little_back k n h)

part_back : (bs before rest : List ℕ) → part_at (length bs) (length before) (before ++ (bs ++ rest)) ≡ Ok (bs, length before + length bs)
part_back bs before rest =
    let all = before ++ (bs ++ rest) in
    let size = length-append before (bs ++ rest) in
    let tail = length-append bs rest in
    let fits : length before + length bs ≤ length all = omega arith in
    cond-true (leb (length before + length bs) (length all)) _ _ (le-leb _ _ fits)
    ∙ ap (λ z. Ok (take (length bs) z, length before + length bs)) (drop_at before (bs ++ rest) (length before) refl)
    ∙ ap (λ z. Ok (z, length before + length bs)) (take_at bs rest (length bs) refl)

-- a tag is below 2 ^ 29
tag_small : (tag : ℕ) → is_tag tag ≡ true → tag < 2 ^ 29
tag_small tag h = ltb-true _ _ (and_parts _ _ h).1

-- the key is read, and what follows it is the body
key_back : (tag kind : ℕ) (before rest : List ℕ) → kind < 8 → is_tag tag ≡ true
    → read_field (length before) (before ++ (key tag kind ++ rest)) ≡ body_at kind tag (length before + length (key tag kind)) (before ++ (key tag kind ++ rest))
unfolding read_field
key_back tag kind before rest h t =
    let small = tag_small tag t in
    let all = before ++ (key tag kind ++ rest) in
    let a : (8 * tag + kind) % 8 ≡ kind = omega arith in
    let b : (8 * tag + kind) / 8 ≡ tag = omega arith in
    ap (λ z. and_then z (λ x. body_at (x.0 % 8) (x.0 / 8) x.1 all)) (varint_back (8 * tag + kind) before rest (omega arith))
    ∙ (λ i. body_at (a i) (b i) (length before + length (key tag kind)) all)

-- the octets up to a place, and those from there on
module _ (before front rest : List ℕ) where
  pub regroup : before ++ (front ++ rest) ≡ (before ++ front) ++ rest
  regroup = sym (append_assoc before front rest)

  pub joined : length before + length front ≡ length (before ++ front)
  joined = sym (length-append before front)

-- what follows the key of a part
abbrev body_of_part : ℕ → ℕ → List ℕ → Result (WireField × ℕ) Fault
body_of_part tag at bs = and_then (varint_at at bs) (λ x. and_then (part_at x.0 x.1 bs) (λ y. named tag (part tag y.0) y.1))

tagged : (tag : ℕ) (f : WireField) (next : ℕ) → is_tag tag ≡ true → named tag f next ≡ Ok (f, next)
tagged tag f next t = cond-true (is_tag tag) _ _ t

pub field_back : (f : WireField) (before after : List ℕ) → Sound f → read_field (length before) (before ++ (encode f ++ after)) ≡ Ok (f, length before + length (encode f))
unfolding encode
field_back (varint tag n) before after s =
    let k = key tag 0 in
    let v = varint_bytes n in
    let e = regroup before k (v ++ after) in
    let l : length (before ++ k) + length v ≡ length before + length (k ++ v) = omega (arith, length-append before k, length-append k v) in
    ap (λ z. read_field (length before) (before ++ z)) (append_assoc k v after)
    ∙ key_back tag 0 before (v ++ after) (omega arith) s.0
    ∙ ap (λ z. and_then z (λ x. named tag (varint tag x.0) x.1)) ((λ i. varint_at (joined before k (v ++ after) i) (e i)) ∙ varint_back n (before ++ k) after s.1)
    ∙ tagged tag (varint tag n) _ s.0
    ∙ ap (λ z. Ok (varint tag n, z)) l
field_back (fixed64 tag n) before after s =
    let k = key tag 1 in
    let v = little 8 n in
    let l : length (before ++ k) + 8 ≡ length before + length (k ++ v) = omega (arith, length-append before k, length-append k v) in
    ap (λ z. read_field (length before) (before ++ z)) (append_assoc k v after)
    ∙ key_back tag 1 before (v ++ after) (omega arith) s.0
    ∙ ap (λ z. and_then z (λ x. named tag (fixed64 tag x.0) x.1)) ((λ i. fixed_at 8 (joined before k (v ++ after) i) (regroup before k (v ++ after) i)) ∙ fixed_back 8 n (before ++ k) after s.1)
    ∙ tagged tag (fixed64 tag n) _ s.0
    ∙ ap (λ z. Ok (fixed64 tag n, z)) l
field_back (part tag bs) before after s =
    let k = key tag 2 in
    let v = varint_bytes (length bs) in
    let p = before ++ k in
    let m : length (p ++ v) + length bs ≡ length before + length (prefix tag (length bs) ++ bs) = omega (arith, length-append before k, length-append p v, length-append (prefix tag (length bs)) bs, prefix_length tag (length bs)) in
    let front : (prefix tag (length bs) ++ bs) ++ after ≡ k ++ (v ++ (bs ++ after)) =
    ap (λ z. (z ++ bs) ++ after) (prefix_is tag (length bs)) ∙ append_assoc (k ++ v) bs after ∙ append_assoc k v (bs ++ after) in
    ap (λ z. read_field (length before) (before ++ z)) front
    ∙ key_back tag 2 before (v ++ (bs ++ after)) (omega arith) s.0
    ∙ (λ i. body_of_part tag (joined before k (v ++ (bs ++ after)) i) (regroup before k (v ++ (bs ++ after)) i))
    ∙ ap (λ z. and_then z (λ x. and_then (part_at x.0 x.1 (p ++ (v ++ (bs ++ after)))) (λ y. named tag (part tag y.0) y.1))) (varint_back (length bs) p (bs ++ after) s.1)
    ∙ ap (λ z. and_then z (λ y. named tag (part tag y.0) y.1)) ((λ i. part_at (length bs) (joined p v (bs ++ after) i) (regroup p v (bs ++ after) i)) ∙ part_back bs (p ++ v) after)
    ∙ tagged tag (part tag bs) _ s.0
    ∙ ap (λ z. Ok (part tag bs, z)) m
field_back (fixed32 tag n) before after s =
    let k = key tag 5 in
    let v = little 4 n in
    let l : length (before ++ k) + 4 ≡ length before + length (k ++ v) = omega (arith, length-append before k, length-append k v) in
    ap (λ z. read_field (length before) (before ++ z)) (append_assoc k v after)
    ∙ key_back tag 5 before (v ++ after) (omega arith) s.0
    ∙ ap (λ z. and_then z (λ x. named tag (fixed32 tag x.0) x.1)) ((λ i. fixed_at 4 (joined before k (v ++ after) i) (regroup before k (v ++ after) i)) ∙ fixed_back 4 n (before ++ k) after s.1)
    ∙ tagged tag (fixed32 tag n) _ s.0
    ∙ ap (λ z. Ok (fixed32 tag n, z)) l

-- a field has an octet at the least, its key's
some_octet : (n : ℕ) → 1 ≤ length (varint_bytes n)
unfolding varint_bytes
some_octet n =
    ⊎_elim
    (λ lt. omega (arith, ap length (cond-true (ltb n 128) (n ∷ []) ((n % 128 + 128) ∷ groups 9 (n / 128)) (lt-ltb n 128 lt))))
    (λ ge. omega (arith, ap length (cond-false (ltb n 128) (n ∷ []) ((n % 128 + 128) ∷ groups 9 (n / 128)) (le-ltb n 128 ge))))
    (cases_lt n 128)

pub some_octets : (f : WireField) → 1 ≤ length (encode f)
some_octets (varint tag n) = omega (arith, varint_octets tag n, some_octet (8 * tag + 0))
some_octets (fixed64 tag n) = omega (arith, fixed64_octets tag n)
some_octets (part tag bs) = omega (arith, part_octets tag bs, prefix_length tag (length bs), some_octet (8 * tag + 2))
some_octets (fixed32 tag n) = omega (arith, fixed32_octets tag n)

module _ {S : Type 0} (merge : S → WireField → Result S Fault) where
  -- one field that is read back, and what is left to read
  turn : (f : WireField) (before after : List ℕ) (s : S) (k : ℕ) → Sound f
      → decode_from merge (suc k) s (length before) (before ++ (encode f ++ after))
      ≡ and_then (in_place (length before) (merge s f)) (λ t. decode_from merge k t (length (before ++ encode f)) ((before ++ encode f) ++ after))
  turn f before after s k sound =
      let all = before ++ (encode f ++ after) in
      let size = length-append before (encode f ++ after) in
      let tail = length-append (encode f) after in
      let lt : length before < length all = omega (arith, some_octets f) in
      cond-true (ltb (length before) (length all)) _ _ (lt-ltb _ _ lt)
      ∙ ap (λ z. and_then (in_place (length before) z) (λ x. and_then (in_place (length before) (merge s x.0)) (λ t. decode_from merge k t x.1 all))) (field_back f before after sound)
      ∙ (λ i. and_then (in_place (length before) (merge s f)) (λ t. decode_from merge k t (joined before (encode f) after i) (regroup before (encode f) after i)))

  stop : (before : List ℕ) (s : S) (k : ℕ) → decode_from merge k s (length before) (before ++ []) ≡ Ok s
  stop before s zero = refl
  stop before s (suc k) = cond-false (ltb (length before) (length (before ++ []))) _ _ (le-ltb _ _ (omega (arith, ap length (append-nil before))))

  on : (m : Result S Fault) (before front after : List ℕ) (fs : List WireField) (k : ℕ)
      → ((t : S) → unplaced (decode_from merge k t (length (before ++ front)) ((before ++ front) ++ after)) ≡ merge_all merge t fs)
      → unplaced (and_then (in_place (length before) m) (λ t. decode_from merge k t (length (before ++ front)) ((before ++ front) ++ after))) ≡ and_then m (λ t. merge_all merge t fs)
  on (Ok t) before front after fs k go = go t
  on (Err e) before front after fs k go = refl

  message_back : (fs : List WireField) (before : List ℕ) (s : S) (k : ℕ) → AllSound fs → length (encode_all fs) ≤ k
      → unplaced (decode_from merge k s (length before) (before ++ encode_all fs)) ≡ merge_all merge s fs
  unfolding encode_all
  message_back [] before s k sound h = ap unplaced (stop before s k)
  message_back (f ∷ fs) before s zero sound h = absurd (omega (arith, length-append (encode f) (encode_all fs), some_octets f))
  message_back (f ∷ fs) before s (suc k) sound h =
      ap unplaced (turn f before (encode_all fs) s k sound.0)
      ∙ on (merge s f) before (encode f) (encode_all fs) fs k (λ t. message_back fs (before ++ encode f) t k sound.1 (omega (arith, length-append (encode f) (encode_all fs), some_octets f)))

  pub decode_back : (s : S) (fs : List WireField) → AllSound fs → unplaced (decoded merge s (encode_all fs)) ≡ merge_all merge s fs
  unfolding decoded
  decode_back s fs sound = message_back fs [] s (length (encode_all fs)) sound (omega arith)
