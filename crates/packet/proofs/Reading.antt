-- What a frame's places hold, so that one packet at most has it. Assumes nothing.
use Rattle.std.proofs.Common.{◌≡◌, ℕ, zero, suc, ◌+◌, ◌-◌, ◌*◌, ◌/◌, ◌^◌, ◌<◌, ◌≤◌, Bool, true, false, eqb, List, ◌++◌, length, get_or, take, drop, Some, None, sym, refl, ap, ◌∙◌, subst, pow-suc, arith}
use Rattle.std.proofs.lemmas.Nat.{div_below, div-add-mod'}
use Rattle.std.proofs.lemmas.List.{append_assoc, length-append, take_at, drop_at}
use Rattle.wire.specs.Fields.{varint_bytes, encode, encode_all}
use Rattle.wire.specs.Octets.{little, from_little}
use Rattle.packet.specs.declared.header.PacketHeader.{PacketHeader}
use Rattle.packet.specs.Frame.{Packet, lengths, header_in, whole_in, octets_of, summed}
use Rattle.packet.specs.Header.{header_octets, header_of, header_length}
use Rattle.packet.specs.Reading.{Carried, Reads, Unique, RoundTrip, header_at, front_of}
use Rattle.packet.proofs.Frames.{lengths_long, frame_long}
use Rattle.packet.proofs.Headers.{header_long}

-- a number from its octets
pub from_little_lem : (n x : ℕ) → x < 256 ^ n → from_little (little n x) ≡ x
from_little_lem zero x h = omega arith
from_little_lem (suc n) x h =
    let p : x < 256 ^ n * 256 = omega (arith, pow-suc 256 n) in
    let e = from_little_lem n (x / 256) (div_below x 256 (256 ^ n) (omega arith) p) in
    omega (arith, e, div-add-mod' x 256)

-- ---- the header of a packet, and its places in the frame

abbrev pub head_of : Packet → PacketHeader
head_of p = record { offset = p.offset; seqno = p.seqno; last = p.last; data_len = length p.bytes }

pub frame_is : (p : Packet) → octets_of p ≡ front_of (whole_in p) (head_of p) ++ (p.sums ++ p.bytes)
unfolding octets_of front_of
frame_is p = sym (append_assoc (lengths (whole_in p) (length (header_in p))) (header_in p) (p.sums ++ p.bytes))

pub front_long : (whole : ℕ) (h : PacketHeader) → length (front_of whole h) ≡ 6 + header_length h.last
unfolding front_of
front_long whole h =
    length-append (lengths whole (length (header_of h))) (header_of h)
    ∙ omega (arith, lengths_long whole (length (header_of h)), header_long h.offset h.seqno h.last h.data_len)

module _ (whole o s n : ℕ) (rest : List ℕ) where
  framed : Bool → List ℕ
  framed l = front_of whole (record { offset = o; seqno = s; last = l; data_len = n }) ++ rest

  offset_at : (l : Bool) → take 8 (drop 7 (framed l)) ≡ little 8 o
  unfolding framed front_of lengths header_octets varint_bytes encode encode_all
  offset_at true = refl
  offset_at false = refl

  seqno_at : (l : Bool) → take 8 (drop 16 (framed l)) ≡ little 8 s
  unfolding framed front_of lengths header_octets varint_bytes encode encode_all
  seqno_at true = refl
  seqno_at false = refl

  last_at_lem : (l : Bool) → eqb (get_or (framed l) 25 0) 1 ≡ l
  unfolding framed front_of lengths header_octets varint_bytes encode encode_all
  last_at_lem true = refl
  last_at_lem false = refl

  size_at_lem : (l : Bool) → take 4 (drop 27 (framed l)) ≡ little 4 n
  unfolding framed front_of lengths header_octets varint_bytes encode encode_all
  size_at_lem true = refl
  size_at_lem false = refl

framed_is : (p : Packet) → octets_of p ≡ framed (whole_in p) p.offset p.seqno (length p.bytes) (p.sums ++ p.bytes) p.last
unfolding framed
framed_is p = frame_is p

-- what the reader finds in the frame of a packet
pub record Found (p : Packet) (octets : List ℕ) : Type 0 where
  pub header : header_at octets ≡ head_of p
  pub long : length octets ≡ 6 + (header_length p.last + (length p.sums + length p.bytes))
  pub front : take (6 + header_length p.last) octets ≡ front_of (whole_in p) (head_of p)
  pub rest : drop (6 + header_length p.last) octets ≡ p.sums ++ p.bytes

pub found : (p : Packet) (octets : List ℕ) → Carried p → octets_of p ≡ octets → Found p octets
found p octets c e = subst (Found p) e (record {
  header = λ i. record {
    offset = (ap (λ z. from_little (take 8 (drop 7 z))) (framed_is p) ∙ ap from_little (offset_at (whole_in p) p.offset p.seqno (length p.bytes) (p.sums ++ p.bytes) p.last) ∙ from_little_lem 8 p.offset c.offset) i;
    seqno = (ap (λ z. from_little (take 8 (drop 16 z))) (framed_is p) ∙ ap from_little (seqno_at (whole_in p) p.offset p.seqno (length p.bytes) (p.sums ++ p.bytes) p.last) ∙ from_little_lem 8 p.seqno c.seqno) i;
    last = (ap (λ z. eqb (get_or z 25 0) 1) (framed_is p) ∙ last_at_lem (whole_in p) p.offset p.seqno (length p.bytes) (p.sums ++ p.bytes) p.last) i;
    data_len = (ap (λ z. from_little (take 4 (drop 27 z))) (framed_is p) ∙ ap from_little (size_at_lem (whole_in p) p.offset p.seqno (length p.bytes) (p.sums ++ p.bytes) p.last) ∙ from_little_lem 4 (length p.bytes) (omega (arith, c.whole))) i;
  };
  long = frame_long p;
  front = ap (take (6 + header_length p.last)) (frame_is p) ∙ take_at (front_of (whole_in p) (head_of p)) (p.sums ++ p.bytes) _ (front_long (whole_in p) (head_of p));
  rest = ap (drop (6 + header_length p.last)) (frame_is p) ∙ drop_at (front_of (whole_in p) (head_of p)) (p.sums ++ p.bytes) _ (front_long (whole_in p) (head_of p));
})

-- ---- one packet at most

pub unique : Unique
unique p q cp cq e =
    let x = octets_of q in
    let f = found p x cp e in
    let g = found q x cq refl in
    let h = sym f.header ∙ g.header in
    let last = ap (λ (z : PacketHeader). z.last) h in
    let size = ap (λ (z : PacketHeader). z.data_len) h in
    let both = sym f.rest ∙ ap (λ l. drop (6 + header_length l) x) last ∙ g.rest in
    let long : length p.sums ≡ length q.sums =
    omega (arith, size, ap length both, length-append p.sums p.bytes, length-append q.sums q.bytes) in
    let sums = sym (take_at p.sums p.bytes (length p.sums) refl) ∙ ap (take (length p.sums)) both ∙ take_at q.sums q.bytes (length p.sums) (sym long) in
    let bytes = sym (drop_at p.sums p.bytes (length p.sums) refl) ∙ ap (drop (length p.sums)) both ∙ drop_at q.sums q.bytes (length p.sums) (sym long) in
    λ i. record { offset = ap (λ (z : PacketHeader). z.offset) h i; seqno = ap (λ (z : PacketHeader). z.seqno) h i; last = last i; sums = sums i; bytes = bytes i }

pub round_trip : RoundTrip
round_trip c w carried (Some q) h = ap Some (unique q (summed c w) h.0 carried h.1)
round_trip c w carried None h = absurd (h (summed c w) carried refl)

-- ---- what is refused is no frame

pub head_least : (l : Bool) → 25 ≤ header_length l
head_least true = omega arith
head_least false = omega arith

pub least_long : (p : Packet) (octets : List ℕ) → Carried p → octets_of p ≡ octets → 31 ≤ length octets
least_long p octets c e = omega (arith, (found p octets c e).long, head_least p.last)

-- n is the length of the header that is found
module _ (octets : List ℕ) (h : PacketHeader) (eh : h ≡ header_at octets) (n : ℕ) (en : n ≡ header_length h.last) (p : Packet) (c : Carried p) (e : octets_of p ≡ octets) where
  is_head : h ≡ head_of p
  is_head = eh ∙ (found p octets c e).header

  is_long : n ≡ header_length p.last
  is_long = en ∙ ap (λ (z : PacketHeader). header_length z.last) is_head

  pub start_within : 6 + n ≤ length octets
  start_within = omega (arith, is_long, (found p octets c e).long)

  pub rest_is : length octets - (6 + n) ≡ length p.sums + length p.bytes
  rest_is = omega (arith, is_long, (found p octets c e).long)

  pub rest_below : 4 + (length octets - (6 + n)) < 2 ^ 31
  rest_below = omega (arith, rest_is, c.whole)

  pub size_within : h.data_len ≤ length octets - (6 + n)
  size_within = omega (arith, rest_is, ap (λ (z : PacketHeader). z.data_len) is_head)

  pub front_is : take (6 + n) octets ≡ front_of (4 + (length octets - (6 + n))) h
  front_is =
      ap (λ m. take (6 + m) octets) is_long
      ∙ (found p octets c e).front
      ∙ (λ i. front_of (4 + sym rest_is i) (sym is_head i))

-- ---- what is taken is the frame

pub taken : (octets front rest sums bytes : List ℕ) (h : PacketHeader) → h.offset < 2 ^ 64 → h.seqno < 2 ^ 64 → front ++ rest ≡ octets → sums ++ bytes ≡ rest → length bytes ≡ h.data_len → 4 + length rest < 2 ^ 31 → front ≡ front_of (4 + length rest) h
    → Reads octets (Some (record { offset = h.offset; seqno = h.seqno; last = h.last; sums = sums; bytes = bytes }))
taken octets front rest sums bytes h ho hs all both lb below is =
    let p : Packet = record { offset = h.offset; seqno = h.seqno; last = h.last; sums = sums; bytes = bytes } in
    let whole : whole_in p ≡ 4 + length rest = omega (arith, ap length both, length-append sums bytes) in (
      record { offset = ho; seqno = hs; whole = omega (arith, whole, below) },
      frame_is p
          ∙ (λ i. front_of (whole i) (record { offset = h.offset; seqno = h.seqno; last = h.last; data_len = lb i }) ++ both i)
          ∙ ap (λ z. z ++ rest) (sym is)
          ∙ all,
    )
