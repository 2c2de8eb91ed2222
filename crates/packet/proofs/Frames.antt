-- The octets of a frame. Assumes nothing.
use Rattle.std.proofs.Common.{◌≡◌, ℕ, ◌+◌, ◌-◌, ◌^◌, ◌<◌, ◌≤◌, true, false, cond, ltb, leb, List, ◌++◌, length, drop, Some, None, sym, refl, ap, ◌∙◌, ⊎_elim, arith}
use borrow.Rule.Slice.PartMut.{put_mid}
use Rattle.std.proofs.lemmas.List.{append_assoc, length-append}
use Rattle.std.proofs.lemmas.Bool.{cond-true, cond-false, and_from, and_left, and_right, lt-ltb, le-ltb, le-leb, lt-leb, cases_lt}
use Rattle.wire.proofs.Front.{start, put, done}
use Rattle.packet.specs.Header.{header_length}
use Rattle.packet.specs.Frame.{Packet, lengths, header_in, whole_in, octets_of, fits_in, end_in, over}
use Rattle.packet.proofs.Headers.{header_long}

pub lengths_long : (whole head : ℕ) → length (lengths whole head) ≡ 6
unfolding lengths
lengths_long whole head = refl

pub frame_long : (p : Packet) → length (octets_of p) ≡ 6 + (header_length p.last + (length p.sums + length p.bytes))
unfolding octets_of
frame_long p =
    length-append (lengths (whole_in p) (length (header_in p))) (header_in p ++ (p.sums ++ p.bytes))
    ∙ omega (arith, lengths_long (whole_in p) (length (header_in p)), length-append (header_in p) (p.sums ++ p.bytes), header_long p.offset p.seqno p.last (length p.bytes), length-append p.sums p.bytes)

-- the parts, written in turn: a buffer of the frame's length holds it then
module _ (p : Packet) (xs : List ℕ) (whole head n m : ℕ) {l h s d : List ℕ} (el : l ≡ lengths whole head) (eh : h ≡ header_in p) (es : s ≡ p.sums) (ed : d ≡ p.bytes)
    (ew : whole ≡ whole_in p) (long : head ≡ header_length p.last) (en : n ≡ length p.sums) (em : m ≡ length p.bytes) (all : length xs ≡ 6 + (head + (n + m))) where
  joined : ((l ++ h) ++ s) ++ d ≡ octets_of p
  unfolding octets_of
  joined =
      let e = long ∙ sym (header_long p.offset p.seqno p.last (length p.bytes)) in
      (λ i. ((el i ++ eh i) ++ es i) ++ ed i)
      ∙ (λ i. ((lengths (ew i) (e i) ++ header_in p) ++ p.sums) ++ p.bytes)
      ∙ simp append_assoc

  pub filled : put_mid (6 + head + n) (6 + head + n + m - (6 + head + n)) (put_mid (6 + head) (6 + head + n - (6 + head)) (put_mid 6 (6 + head - 6) (l ++ drop 6 xs) h) s) d ≡ octets_of p
  filled =
      let k1 : length h ≡ 6 + head - 6 = ap length eh ∙ header_long p.offset p.seqno p.last (length p.bytes) ∙ omega arith in
      let k2 : length s ≡ 6 + head + n - (6 + head) = ap length es ∙ omega arith in
      let k3 : length d ≡ 6 + head + n + m - (6 + head + n) = ap length ed ∙ omega arith in
      let f1 = put (start xs) 6 6 l (ap length el ∙ lengths_long whole head) refl (omega arith) in
      let f2 = put f1 (6 + head - 6) (6 + head) h k1 (omega arith) (omega arith) in
      let f3 = put f2 (6 + head + n - (6 + head)) (6 + head + n) s k2 (omega arith) (omega arith) in
      let f4 = put f3 (6 + head + n + m - (6 + head + n)) (6 + head + n + m) d k3 (omega arith) (omega arith) in
      done f4 (omega arith) ∙ joined

-- ---- a frame that fits, and one that does not

module _ (p : Packet) (buffer : List ℕ) where
  pub fits : whole_in p < 2 ^ 31 → length (octets_of p) ≤ length buffer → fits_in p buffer ≡ true
  unfolding fits_in
  fits c h = and_from (ltb (whole_in p) (2 ^ 31)) (leb (length (octets_of p)) (length buffer)) (lt-ltb _ _ c) (le-leb _ _ h)

  pub too_much : 2 ^ 31 ≤ whole_in p → fits_in p buffer ≡ false
  unfolding fits_in
  too_much h = and_left (ltb (whole_in p) (2 ^ 31)) (leb (length (octets_of p)) (length buffer)) (le-ltb _ _ h)

  pub too_long : length buffer < length (octets_of p) → fits_in p buffer ≡ false
  unfolding fits_in
  too_long h = and_right (ltb (whole_in p) (2 ^ 31)) (leb (length (octets_of p)) (length buffer)) (lt-leb _ _ h)

  pub none_end : fits_in p buffer ≡ false → None ≡ end_in p buffer
  unfolding end_in
  none_end e = sym (cond-false (fits_in p buffer) (Some (length (octets_of p))) None e)

  pub none_over : fits_in p buffer ≡ false → buffer ≡ over p buffer
  unfolding over
  none_over e = sym (cond-false (fits_in p buffer) (octets_of p ++ drop (length (octets_of p)) buffer) buffer e)

  pub some_end : (n : ℕ) → fits_in p buffer ≡ true → n ≡ length (octets_of p) → Some n ≡ end_in p buffer
  unfolding end_in
  some_end n e h = ap Some h ∙ sym (cond-true (fits_in p buffer) (Some (length (octets_of p))) None e)

  pub some_over : (n : ℕ) (ys : List ℕ) → fits_in p buffer ≡ true → n ≡ length (octets_of p) → ys ≡ octets_of p → ys ++ drop n buffer ≡ over p buffer
  unfolding over
  some_over n ys e h is =
      (λ i. is i ++ drop (h i) buffer) ∙ sym (cond-true (fits_in p buffer) (octets_of p ++ drop (length (octets_of p)) buffer) buffer e)

-- what `carried_sums` answers
pub carried : (w n : ℕ) → cond (ltb w (2 ^ 31)) (Some n) None ≡ None → 2 ^ 31 ≤ w
carried w n e = ⊎_elim (λ lt. absurd (let z : ◌≡◌ {A = ℕ} 0 1 = cc (cond-true (ltb w (2 ^ 31)) (Some n) None (lt-ltb w (2 ^ 31) lt), e) in omega arith)) (λ ge. ge) (cases_lt w (2 ^ 31))

pub carries : (w n m : ℕ) → cond (ltb w (2 ^ 31)) (Some n) None ≡ Some m → (w < 2 ^ 31) × (m ≡ n)
carries w n m e =
    ⊎_elim
    (λ lt. let t = cond-true (ltb w (2 ^ 31)) (Some n) None (lt-ltb w (2 ^ 31) lt) in (lt, cc))
    (λ ge. absurd (let z : ◌≡◌ {A = ℕ} 0 1 = cc (cond-false (ltb w (2 ^ 31)) (Some n) None (le-ltb w (2 ^ 31) ge), e) in omega arith))
    (cases_lt w (2 ^ 31))
