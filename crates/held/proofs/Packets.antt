-- The held packets from the front and from the end, and their bytes. Assumes nothing.
use Rattle.std.proofs.Common.{◌≡◌, ℕ, zero, suc, ◌+◌, ◌-◌, ◌*◌, ◌%◌, ◌<◌, ◌≤◌, Bool, false, List, [], ◌∷◌, ◌++◌, length, get_or, sym, refl, ap, ◌∙◌, append_assoc, not-suc-le-zero, add-zero, mul-le-mul_right, mod-lt, suc-mul, add-one, sub-one, arith, length-append, length-drop, length-take}
use Rattle.std.proofs.lemmas.List.{append-nil}
use Rattle.packet.specs.Frame.{Packet}
use Rattle.held.specs.Slots.{total, size_at, slot_of, packet_of, last_at, packets, bytes_of}

-- a slot lies in the store
pub slot_within : (k s n : ℕ) → 0 < s → (n % s) * k + k ≤ s * k
slot_within k s n h = rw (← suc-mul) (mul-le-mul_right k (mod-lt n h))

pub slot_long : (k s : ℕ) (store : List ℕ) (n m : ℕ) → 0 < s → m ≤ k → s * k ≤ length store → length (slot_of k s store n m) ≡ m
slot_long k s store n m h l fits = simp (length-take, length-drop) (omega (arith, slot_within k s n h))

pub total_first : (s : ℕ) (sizes : List ℕ) (c n : ℕ) → 0 < c → total s sizes c n ≡ size_at s sizes n + total s sizes (c - 1) (n + 1)
total_first s sizes zero n h = absurd (not-suc-le-zero h)
total_first s sizes (suc c) n h = simp (add-one, sub-one)

pub total_more : (s : ℕ) (sizes : List ℕ) (c n : ℕ) → total s sizes (c + 1) n ≡ total s sizes c n + size_at s sizes (n + c)
total_more s sizes zero n = simp add-zero (omega arith)
total_more s sizes (suc c) n =
    let rest = total_more s sizes c (suc n) in
    let at : suc n + c ≡ n + suc c = omega arith in
    let next : suc c + 1 ≡ suc (c + 1) = omega arith in
    rw next (omega (arith, rest, ap (size_at s sizes) at))

pub total_le : (s : ℕ) (sizes : List ℕ) (c d n : ℕ) → c ≤ d → total s sizes c n ≤ total s sizes d n
total_le s sizes zero d n h = omega arith
total_le s sizes (suc c) zero n h = absurd (not-suc-le-zero h)
total_le s sizes (suc c) (suc d) n h = omega (arith, total_le s sizes c d (suc n) (omega arith))

module _ (u k s : ℕ) (sizes store : List ℕ) where
  pub packets_first : (finished : Bool) (c n o : ℕ) → 0 < c
      → packets u k s sizes store finished c n o ≡ packet_of u o n (last_at finished (c - 1)) (slot_of k s store n (size_at s sizes n)) ∷ packets u k s sizes store finished (c - 1) (n + 1) (o + size_at s sizes n)
  packets_first finished zero n o h = absurd (not-suc-le-zero h)
  packets_first finished (suc c) n o h = simp (add-one, sub-one)

  pub packets_none : (finished : Bool) (c n o : ℕ) → c ≤ 0 → packets u k s sizes store finished c n o ≡ []
  packets_none finished zero n o h = refl
  packets_none finished (suc c) n o h = absurd (not-suc-le-zero h)

  -- one packet more, which may be the last
  pub packets_more : (finished : Bool) (c n o : ℕ)
      → packets u k s sizes store finished (c + 1) n o ≡ packets u k s sizes store false c n o ++ packet_of u (o + total s sizes c n) (n + c) finished (slot_of k s store (n + c) (size_at s sizes (n + c))) ∷ []
  packets_more finished zero n o = simp add-zero
  packets_more finished (suc c) n o =
      let rest = packets_more finished c (suc n) (o + size_at s sizes n) in
      let at : suc n + c ≡ n + suc c = omega arith in
      let off : o + size_at s sizes n + total s sizes c (suc n) ≡ o + (size_at s sizes n + total s sizes c (suc n)) = omega arith in
      let next : suc c + 1 ≡ suc (c + 1) = omega arith in
      let inner : last_at finished (c + 1) ≡ last_at false c = ap (last_at finished) (add-one c) ∙ sym (not_last c) in
      rw (next, inner, rest, at, off)
    where
      not_last : (c : ℕ) → last_at false c ≡ false
      not_last zero = refl
      not_last (suc c) = refl

  pub bytes_long : (finished : Bool) (c n o : ℕ) → 0 < s → ((m : ℕ) → get_or sizes m 0 ≤ k) → s * k ≤ length store → length (bytes_of (packets u k s sizes store finished c n o)) ≡ total s sizes c n
  bytes_long finished zero n o hs small fits = refl
  bytes_long finished (suc c) n o hs small fits =
      simp length-append (omega (arith, slot_long k s store n (size_at s sizes n) hs (small (n % s)) fits, bytes_long finished c (suc n) (o + size_at s sizes n) hs small fits))

  -- which packet is the last does not change the bytes
  pub bytes_same : (f g : Bool) (c n o p : ℕ) → bytes_of (packets u k s sizes store f c n o) ≡ bytes_of (packets u k s sizes store g c n p)
  bytes_same f g zero n o p = refl
  bytes_same f g (suc c) n o p = ap (λ (l : List ℕ). slot_of k s store n (size_at s sizes n) ++ l) (bytes_same f g c (suc n) (o + size_at s sizes n) (p + size_at s sizes n))

pub bytes_of_push : (ps : List Packet) (q : Packet) → bytes_of (ps ++ q ∷ []) ≡ bytes_of ps ++ q.bytes
bytes_of_push [] q = append-nil q.bytes
bytes_of_push (p ∷ ps) q = rw (bytes_of_push ps q) (sym (append_assoc p.bytes (bytes_of ps) q.bytes))

-- where the filling packet ends
pub whole_long : (u k s : ℕ) (sizes store : List ℕ) (finished : Bool) (c n f : ℕ) (kept all : List ℕ) → 0 < s → ((m : ℕ) → get_or sizes m 0 ≤ k) → f ≤ k → s * k ≤ length store
    → kept ++ (bytes_of (packets u k s sizes store finished c n (length kept)) ++ slot_of k s store (n + c) f) ≡ all
    → length kept + (total s sizes c n + f) ≡ length all
whole_long u k s sizes store finished c n f kept all hs small le fits e =
    let a = bytes_of (packets u k s sizes store finished c n (length kept)) in
    let b = slot_of k s store (n + c) f in
    let la = bytes_long u k s sizes store finished c n (length kept) hs small fits in
    let lb = slot_long k s store (n + c) f hs le fits in
    let l = ap length e in
    omega (arith, l, length-append kept (a ++ b), length-append a b, la, lb)
