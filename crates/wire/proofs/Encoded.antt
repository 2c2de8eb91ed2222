-- The octets of fields, joined and split. Assumes nothing.
use Rattle.std.proofs.Common.{◌≡◌, ℕ, ◌+◌, ◌-◌, ◌*◌, ◌<◌, ◌≤◌, List, [], ◌∷◌, ◌++◌, map, length, get_or, take, drop, sym, refl, ap, ◌∙◌, add-zero, arith}
use borrow.Rule.Slice.PartMut.{put_mid}
use Rattle.std.proofs.lemmas.List.{append_assoc, append-nil, length-append, map-append, drop_more, drop_all, take_more}
use Rattle.wire.specs.Octets.{little}
use Rattle.wire.specs.Fields.{WireField, varint, fixed64, part, fixed32, varint_bytes, key, prefix, encode, encode_all}
use Rattle.wire.proofs.Front.{start, put, done}

pub encode_join : (fs gs : List WireField) → encode_all (fs ++ gs) ≡ encode_all fs ++ encode_all gs
unfolding encode_all
encode_join [] gs = refl
encode_join (f ∷ fs) gs = ap (λ z. encode f ++ z) (encode_join fs gs) ∙ sym (append_assoc (encode f) (encode_all fs) (encode_all gs))

pub encode_one : (f : WireField) → encode_all (f ∷ []) ≡ encode f
unfolding encode_all
encode_one f = append-nil (encode f)

pub nothing : encode_all [] ≡ []
unfolding encode_all
nothing = refl

pub join_length : (fs gs : List WireField) → length (encode_all (fs ++ gs)) ≡ length (encode_all fs) + length (encode_all gs)
join_length fs gs = ap length (encode_join fs gs) ∙ length-append (encode_all fs) (encode_all gs)

-- a field alone
pub number_is : (tag n : ℕ) → encode_all (varint tag n ∷ []) ≡ varint_bytes (8 * tag) ++ varint_bytes n
unfolding encode
number_is tag n = encode_one (varint tag n) ∙ ap (λ z. varint_bytes z ++ varint_bytes n) (add-zero (8 * tag))

pub number_length : (tag n : ℕ) → length (encode_all (varint tag n ∷ [])) ≡ length (varint_bytes (8 * tag)) + length (varint_bytes n)
number_length tag n = ap length (number_is tag n) ∙ length-append (varint_bytes (8 * tag)) (varint_bytes n)

pub prefix_is : (tag n : ℕ) → prefix tag n ≡ varint_bytes (8 * tag + 2) ++ varint_bytes n
unfolding prefix
prefix_is tag n = refl

pub prefix_length : (tag n : ℕ) → length (prefix tag n) ≡ length (varint_bytes (8 * tag + 2)) + length (varint_bytes n)
prefix_length tag n = ap length (prefix_is tag n) ∙ length-append (varint_bytes (8 * tag + 2)) (varint_bytes n)

pub part_is : (tag : ℕ) (bs : List ℕ) → encode_all (part tag bs ∷ []) ≡ prefix tag (length bs) ++ bs
unfolding encode
part_is tag bs = encode_one (part tag bs)

pub part_length : (tag : ℕ) (bs : List ℕ) → length (encode_all (part tag bs ∷ [])) ≡ length (prefix tag (length bs)) + length bs
part_length tag bs = ap length (part_is tag bs) ∙ length-append (prefix tag (length bs)) bs

pub fixed64_is : (tag n : ℕ) → encode_all (fixed64 tag n ∷ []) ≡ key tag 1 ++ little 8 n
unfolding encode
fixed64_is tag n = encode_one (fixed64 tag n)

pub fixed64_length : (tag n : ℕ) → length (encode_all (fixed64 tag n ∷ [])) ≡ length (key tag 1) + 8
fixed64_length tag n = ap length (fixed64_is tag n) ∙ length-append (key tag 1) (little 8 n)

pub fixed32_is : (tag n : ℕ) → encode_all (fixed32 tag n ∷ []) ≡ key tag 5 ++ little 4 n
unfolding encode
fixed32_is tag n = encode_one (fixed32 tag n)

pub fixed32_length : (tag n : ℕ) → length (encode_all (fixed32 tag n ∷ [])) ≡ length (key tag 5) + 4
fixed32_length tag n = ap length (fixed32_is tag n) ∙ length-append (key tag 5) (little 4 n)

-- how many octets a field has
pub varint_octets : (tag n : ℕ) → length (encode (varint tag n)) ≡ length (key tag 0) + length (varint_bytes n)
unfolding encode
varint_octets tag n = length-append (key tag 0) (varint_bytes n)

pub fixed64_octets : (tag n : ℕ) → length (encode (fixed64 tag n)) ≡ length (key tag 1) + 8
unfolding encode
fixed64_octets tag n = length-append (key tag 1) (little 8 n)

pub part_octets : (tag : ℕ) (bs : List ℕ) → length (encode (part tag bs)) ≡ length (prefix tag (length bs)) + length bs
unfolding encode
part_octets tag bs = length-append (prefix tag (length bs)) bs

pub fixed32_octets : (tag n : ℕ) → length (encode (fixed32 tag n)) ≡ length (key tag 5) + 4
unfolding encode
fixed32_octets tag n = length-append (key tag 5) (little 4 n)

-- a buffer that is written in two parts
pub in_two : (xs a b : List ℕ) (n : ℕ) → length a ≡ n → n + length b ≡ length xs → put_mid n (length xs - n) (put_mid 0 (n - 0) xs a) b ≡ a ++ b
in_two xs a b n ea eb =
    let f = put (start xs) (n - 0) n a (omega arith) (omega arith) (omega arith) in
    done (put f (length xs - n) (length xs) b (omega arith) (omega arith) (omega arith)) refl

-- one row of a table after another
module _ {T : Type 0} (f : T → WireField) (rows : List T) (i : ℕ) (x : T) (h : i < length rows) (e : x ≡ get_or rows i x) where
  pub rows_left : encode_all (map f (drop i rows)) ≡ encode_all (f x ∷ []) ++ encode_all (map f (drop (i + 1) rows))
  rows_left =
      ap (λ z. encode_all (map f z)) (drop_more rows i x h)
      ∙ encode_join (f (get_or rows i x) ∷ []) (map f (drop (i + 1) rows))
      ∙ ap (λ z. encode_all (f z ∷ []) ++ encode_all (map f (drop (i + 1) rows))) (sym e)

  pub left_length : length (encode_all (map f (drop i rows))) ≡ length (encode_all (f x ∷ [])) + length (encode_all (map f (drop (i + 1) rows)))
  left_length = ap length rows_left ∙ length-append (encode_all (f x ∷ [])) (encode_all (map f (drop (i + 1) rows)))

  pub rows_done : encode_all (map f (take (i + 1) rows)) ≡ encode_all (map f (take i rows)) ++ encode_all (f x ∷ [])
  rows_done =
      ap (λ z. encode_all (map f z)) (take_more rows i x h)
      ∙ ap encode_all (map-append f (take i rows) (get_or rows i x ∷ []))
      ∙ encode_join (map f (take i rows)) (f (get_or rows i x) ∷ [])
      ∙ ap (λ z. encode_all (map f (take i rows)) ++ encode_all (f z ∷ [])) (sym e)

pub none_left : {T : Type 0} (f : T → WireField) (rows : List T) (i : ℕ) → length rows ≤ i → encode_all (map f (drop i rows)) ≡ []
unfolding encode_all
none_left f rows i h = ap (λ z. encode_all (map f z)) (drop_all i rows h)
