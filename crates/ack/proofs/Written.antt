-- An answer's length, and what is read back of it. Assumes nothing.
use Rattle.std.proofs.Common.{◌≡◌, ℕ, zero, suc, ◌+◌, ◌-◌, ◌*◌, ◌%◌, ◌^◌, ◌<◌, ◌≤◌, eqb, ltb, List, [], ◌∷◌, ◌++◌, map, length, replicate, Some, Ok, Err, Result, sym, refl, ap, ◌∙◌, ⊎_elim, mul-le-mul_right, arith}
use Rattle.std.proofs.lemmas.List.{append_assoc, append-nil}
use Rattle.std.proofs.lemmas.Bool.{cond-true, cond-false, lt-ltb, le-ltb, eq-eqb, ne_eqb, cases_lt}
use Rattle.wire.specs.declared.field.DecodeError.{DecodeError}
use Rattle.wire.specs.Fields.{varint, varint_bytes, encode_all}
use Rattle.wire.specs.Laws.{AllSound, merge_all, unplaced}
use Rattle.wire.proofs.Back.{decode_back}
use Rattle.wire.proofs.Lengths.{number_bound, all_length, rows_bound}
use Rattle.ack.specs.Acks.{AckFields, zigzag, merge_ack, no_fields, ack_of}
use Rattle.ack.specs.Failures.{known, failures, failed_nodes}
use Rattle.ack.specs.Verdicts.{number_if, passes}
use Rattle.ack.specs.Written.{zag, answer_fields, answer_octets, Octet}

pub answer_bound : (seqno : ℕ) (replies : List ℕ) → length replies ≤ 8 → length (encode_all (answer_fields seqno replies)) ≤ 99
unfolding varint_bytes
answer_bound seqno replies few =
    let rows = map (λ status. varint 2 status) replies in
    omega (
      arith,
      all_length (varint 1 (zag seqno)) rows,
      number_bound 1 1 (zag seqno) refl,
      rows_bound (λ status. varint 2 status) 11 (λ status. number_bound 2 1 status refl) replies,
      mul-le-mul_right {m = length replies} {n = 8} 11 few,
    )

-- a number with its sign comes back
zigzag_zag : (n : ℕ) → n < 2 ^ 64 → zigzag (zag n) ≡ n
zigzag_zag n h =
    ⊎_elim
    (λ lt.
    let e = cond-true (ltb n (2 ^ 63)) (2 * n) (2 * (2 ^ 64 - 1 - n) + 1) (lt-ltb n (2 ^ 63) lt) in
    let even : 2 * n % 2 ≡ 0 = omega arith in
    ap zigzag e ∙ cond-true (eqb (2 * n % 2) 0) _ _ (eq-eqb _ 0 even) ∙ omega arith)
    (λ ge.
    let m = 2 * (2 ^ 64 - 1 - n) + 1 in
    let e = cond-false (ltb n (2 ^ 63)) (2 * n) m (le-ltb n (2 ^ 63) ge) in
    let odd : m % 2 ≡ 0 → ⊥ = λ z. omega arith in
    ap zigzag e ∙ cond-false (eqb (m % 2) 0) _ _ (ne_eqb _ 0 odd) ∙ omega arith)
    (cases_lt n (2 ^ 63))

zag_small : (n : ℕ) → n < 2 ^ 64 → zag n < 2 ^ 64
zag_small n h =
    ⊎_elim
    (λ lt. omega (arith, cond-true (ltb n (2 ^ 63)) (2 * n) (2 * (2 ^ 64 - 1 - n) + 1) (lt-ltb n (2 ^ 63) lt)))
    (λ ge. omega (arith, cond-false (ltb n (2 ^ 63)) (2 * n) (2 * (2 ^ 64 - 1 - n) + 1) (le-ltb n (2 ^ 63) ge)))
    (cases_lt n (2 ^ 63))

rows_sound : (replies : List ℕ) → Octet replies → AllSound (map (λ status. varint 2 status) replies)
rows_sound [] o = tt
rows_sound (b ∷ bs) o = ((refl, omega (arith, o.0)), rows_sound bs o.1)

-- the replies add up
adds : (replies : List ℕ) (n : ℕ) (codes : List ℕ) → merge_all merge_ack (record { seqno = n; codes = codes }) (map (λ status. varint 2 status) replies) ≡ Ok (record { seqno = n; codes = codes ++ replies })
adds [] n codes = ap (λ z. Ok (record { seqno = n; codes = z })) (sym (append-nil codes))
adds (b ∷ bs) n codes = adds bs n (codes ++ b ∷ []) ∙ ap (λ z. Ok (record { seqno = n; codes = z })) (append_assoc codes (b ∷ []) bs)

placed : (r : Result AckFields DecodeError) (a : AckFields) → unplaced r ≡ Ok a → r ≡ Ok a
placed (Ok x) a e = let q : x ≡ a = cc in ap Ok q
placed (Err x) a e = let z : ◌≡◌ {A = ℕ} 0 1 = cc in absurd (omega arith)

pub read_back : (seqno : ℕ) (replies : List ℕ) → seqno < 2 ^ 64 → Octet replies → ack_of (answer_octets seqno replies) ≡ Ok (record { seqno = seqno; codes = replies })
unfolding ack_of answer_octets
read_back seqno replies h o =
    placed _ _ (
    decode_back merge_ack no_fields (answer_fields seqno replies) ((refl, zag_small seqno h), rows_sound replies o)
    ∙ adds replies (zigzag (zag seqno)) []
    ∙ ap (λ z. Ok (record { seqno = z; codes = replies })) (zigzag_zag seqno h)
    )

-- nodes that all replied 0 have not failed, so the answer passes
zeros : (k : ℕ) → Octet (replicate k 0)
zeros zero = tt
zeros (suc k) = (omega arith, zeros k)

no_failures : (k at : ℕ) → failures at (known (replicate k 0)) ≡ []
no_failures zero at = refl
no_failures (suc k) at = no_failures k (at + 1)

pub good_passes : (seqno k : ℕ) → seqno < 2 ^ 64 → passes (answer_octets seqno (replicate k 0)) ≡ Some seqno
unfolding passes failed_nodes
good_passes seqno k h =
    let e = ap length (no_failures k 0) in
    ap number_if (read_back seqno (replicate k 0) h (zeros k)) ∙ cond-true _ _ _ (eq-eqb _ 0 e)
