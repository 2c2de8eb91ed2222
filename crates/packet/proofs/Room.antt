-- The frame capacity holds every frame. Assumes nothing.
use Rattle.std.proofs.Common.{◌≡◌, ℕ, ◌+◌, ◌-◌, ◌*◌, ◌/◌, ◌%◌, ◌<◌, ◌≤◌, Bool, true, false, ◌&&◌, eqb, ltb, List, length, ap, ◌∙◌, ⊎_elim, mod-lt, mul-add, arith}
use Rattle.std.proofs.lemmas.Nat.{div-add-mod', le-div, mul-le}
use Rattle.std.proofs.lemmas.Bool.{cond-true, cond-false, cond_both, eqb-false, eq-eqb, ne_eqb, ltb-false, and_cases, or_parts, cases_lt, cases_eq}
use Rattle.packet.specs.declared.size.PacketSize.{PacketSize}
use Rattle.packet.specs.Frame.{Packet, fits_in}
use Rattle.packet.specs.Header.{header_length}
use Rattle.packet.specs.Room.{FramesFit, FirstWithin}
use Rattle.packet.specs.Sizes.{chunk_size_refused, packet_size_refused, chunks_of, capacity_of, first_capacity_of, frame_capacity_of}
use Rattle.packet.specs.Sums.{chunk_count, sums_of}
use Rattle.packet.proofs.Chunks.{begins_within, sums_of_long}
use Rattle.packet.proofs.Frames.{frame_long, fits}

head_most : (l : Bool) → header_length l ≤ 27
head_most true = omega arith
head_most false = omega arith

-- data within k chunks has k sums at most
count_within : (c n k : ℕ) → n ≤ k * c → chunk_count c n ≤ k
count_within c n k h = ⊎_elim (λ lt. absurd (let b = begins_within c n k lt in omega arith)) (λ le. le) (cases_lt k (chunk_count c n))

module _ (c p : ℕ) (ec : chunk_size_refused c ≡ false) (ep : packet_size_refused 4 c p ≡ false) where
  chunk_some : 0 < c
  chunk_some = let n = eqb-false c 0 (or_parts (eqb c 0) (ltb 1_048_576 c) ec).0 in ⊎_elim (λ e. absurd (n e)) (λ ne. omega arith) (cases_eq c 0)

  chunk_most : c ≤ 1_048_576
  chunk_most = ltb-false 1_048_576 c (or_parts (eqb c 0) (ltb 1_048_576 c) ec).1

  packet_most : p ≤ 16_777_216
  packet_most = ltb-false 16_777_216 p (or_parts (ltb 0 p && ltb p (33 + (c + 4))) (ltb 16_777_216 p) ep).1

  packet_least : (p ≡ 0 → ⊥) → 33 + (c + 4) ≤ p
  packet_least ne =
      ⊎_elim
      (λ e. absurd (ne (omega (arith, ltb-false 0 p e))))
      (λ e. ltb-false p (33 + (c + 4)) e)
      (and_cases (ltb 0 p) (ltb p (33 + (c + 4))) (or_parts (ltb 0 p && ltb p (33 + (c + 4))) (ltb 16_777_216 p) ep).0)

  chunks_one : p ≡ 0 → chunks_of 4 c p ≡ 1
  chunks_one e = cond-true (eqb p 0) 1 ((p - 33) / (c + 4)) (eq-eqb p 0 e)

  chunks_many : (p ≡ 0 → ⊥) → chunks_of 4 c p ≡ (p - 33) / (c + 4)
  chunks_many ne = cond-false (eqb p 0) 1 ((p - 33) / (c + 4)) (ne_eqb p 0 ne)

  pub chunks_some : 0 < chunks_of 4 c p
  chunks_some =
      ⊎_elim
      (λ e. let k = chunks_one e in omega arith)
      (λ ne. let k = chunks_many ne in let least = packet_least ne in omega (arith, le-div 1 (p - 33) (c + 4) (omega arith) (omega arith)))
      (cases_eq p 0)

  pub chunks_most : chunks_of 4 c p * (c + 4) ≤ 16_777_216
  chunks_most =
      ⊎_elim
      (λ e. let k = ap (λ n. n * (c + 4)) (chunks_one e) in omega (arith, k, chunk_most))
      (λ ne. let k = ap (λ n. n * (c + 4)) (chunks_many ne) in omega (arith, k, div-add-mod' (p - 33) (c + 4), packet_most))
      (cases_eq p 0)

pub frames_fit : FramesFit
frames_fit c p q buffer ec ep es within room =
    let k = chunks_of 4 c p in
    let n = length q.bytes in
    let count = count_within c n k within in
    let long : length q.sums ≡ 4 * chunk_count c n = ap length es ∙ sums_of_long c q.bytes in
    let most = chunks_most c p ec ep in
    let parts = mul-add k c 4 in
    fits q buffer (omega (arith, long, count, within, most, parts)) (omega (arith, frame_long q, head_most q.last, long, count, within, parts, room))

pub first_within : FirstWithin
first_within c p n ec ep =
    let k = chunks_of 4 c p in
    cond_both (eqb (n % c) 0) (capacity_of 4 c p) (c - n % c) (λ x. x ≤ capacity_of 4 c p)
    (λ e. omega arith)
    (λ e. omega (arith, mul-le 1 c k c (chunks_some c p ec ep) (omega arith)))

-- the same of sizes that the program has accepted
pub size_fits : (s : PacketSize) (q : Packet) (buffer : List ℕ) → q.sums ≡ sums_of s.chunk q.bytes
    → length q.bytes ≤ capacity_of 4 s.chunk s.packet → frame_capacity_of 4 s.chunk s.packet ≤ length buffer → fits_in q buffer ≡ true
size_fits s q buffer = frames_fit s.chunk s.packet q buffer s.accepted.0 s.accepted.1

pub size_first : (s : PacketSize) (n : ℕ) → first_capacity_of 4 s.chunk s.packet n ≤ capacity_of 4 s.chunk s.packet
size_first s n = first_within s.chunk s.packet n s.accepted.0 s.accepted.1

pub size_some : (s : PacketSize) → 0 < capacity_of 4 s.chunk s.packet
size_some s = omega (arith, mul-le 1 1 (chunks_of 4 s.chunk s.packet) s.chunk (chunks_some s.chunk s.packet s.accepted.0 s.accepted.1) (chunk_some s.chunk s.packet s.accepted.0 s.accepted.1))

pub size_first_some : (s : PacketSize) (n : ℕ) → 0 < first_capacity_of 4 s.chunk s.packet n
size_first_some s n =
    cond_both (eqb (n % s.chunk) 0) (capacity_of 4 s.chunk s.packet) (s.chunk - n % s.chunk) (λ x. 0 < x)
    (λ e. size_some s)
    (λ e. let m = mod-lt n (chunk_some s.chunk s.packet s.accepted.0 s.accepted.1) in omega (arith, m))
