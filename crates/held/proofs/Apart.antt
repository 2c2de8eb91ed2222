-- Two packets that are held at one time have two slots, so that one changed leaves the others. Assumes nothing.
use Rattle.std.proofs.Common.{◌≡◌, ℕ, zero, suc, ◌+◌, ◌-◌, ◌%◌, ◌<◌, ◌≤◌, Bool, false, ◌≢◌, List, [], ◌∷◌, ◌++◌, length, get_or, set, sym, refl, ap, ◌∙◌, ⊎_elim, mod-lt, mod-eq_of_lt, arith, get_or-set_other, get_or-set_same}
use native.Mathlib.Nat.{mod-eq-sub-mod, mod-add-mod}
use Rattle.std.proofs.lemmas.List.{append-nil}
use Rattle.std.proofs.lemmas.Bool.{cases_lt}
use Rattle.held.specs.Slots.{total, size_at, slot_of, packet_of, packets, bytes_of}
use Rattle.held.proofs.Packets.{packets_more, total_more, bytes_of_push, bytes_same}

-- two packets that are less than s apart have two slots
pub apart : (s m d : ℕ) → 0 < d → d < s → m % s ≡ (m + d) % s → ⊥
apart s m d some less e =
    let r : m % s < s = mod-lt m (omega arith) in
    let f : (m % s + d) % s ≡ m % s = mod-add-mod m s d ∙ sym e in
    ⊎_elim
    (λ (h : m % s + d < s). omega (arith, mod-eq_of_lt h, f))
    (λ (h : s ≤ m % s + d). let l : m % s + d - s < s = omega arith in omega (arith, mod-eq-sub-mod h, mod-eq_of_lt l, f))
    (cases_lt (m % s + d) s)

pub slots_apart : (s m m' : ℕ) → m < m' → m' < m + s → m % s ≢ m' % s
slots_apart s m m' l h e =
    let at : m + (m' - m) ≡ m' = omega arith in
    apart s m (m' - m) (omega arith) (omega arith) (e ∙ ap (λ (i : ℕ). i % s) (sym at))

-- what is elsewhere does not matter
module _ (u k s : ℕ) where
  pub packets_frame : (sizes sizes' store store' : List ℕ) (finished : Bool) (c n o : ℕ)
      → ((m : ℕ) → n ≤ m → m < n + c → size_at s sizes' m ≡ size_at s sizes m)
      → ((m : ℕ) → n ≤ m → m < n + c → slot_of k s store' m (size_at s sizes m) ≡ slot_of k s store m (size_at s sizes m))
      → packets u k s sizes' store' finished c n o ≡ packets u k s sizes store finished c n o
  packets_frame sizes sizes' store store' finished zero n o hs hb = refl
  packets_frame sizes sizes' store store' finished (suc c) n o hs hb =
      let here = hs n (omega arith) (omega arith) in
      let bytes = hb n (omega arith) (omega arith) in
      let rest = packets_frame sizes sizes' store store' finished c (suc n) (o + size_at s sizes n) (λ m l h. hs m (omega arith) (omega arith)) (λ m l h. hb m (omega arith) (omega arith)) in
      rw (here, bytes, rest)

pub total_frame : (s : ℕ) (sizes sizes' : List ℕ) (c n : ℕ)
    → ((m : ℕ) → n ≤ m → m < n + c → size_at s sizes' m ≡ size_at s sizes m)
    → total s sizes' c n ≡ total s sizes c n
total_frame s sizes sizes' zero n hs = refl
total_frame s sizes sizes' (suc c) n hs =
    let here = hs n (omega arith) (omega arith) in
    let rest = total_frame s sizes sizes' c (suc n) (λ m l h. hs m (omega arith) (omega arith)) in
    rw (here, rest)

-- the packet n + c, of f bytes, is held too
module _ (u k s : ℕ) (sizes store : List ℕ) (c n f : ℕ) (less : c < s) (table : s ≤ length sizes) where
  others : (m : ℕ) → n ≤ m → m < n + c → size_at s (set sizes ((n + c) % s) f) m ≡ size_at s sizes m
  others m l h = get_or-set_other sizes ((n + c) % s) (m % s) f 0 (slots_apart s m (n + c) h (omega arith))

  this : size_at s (set sizes ((n + c) % s) f) (n + c) ≡ f
  this = let r : (n + c) % s < s = mod-lt (n + c) (omega arith) in get_or-set_same sizes ((n + c) % s) f 0 (omega arith)

  pub handed_total : total s (set sizes ((n + c) % s) f) (c + 1) n ≡ total s sizes c n + f
  handed_total =
      let t = total_frame s sizes (set sizes ((n + c) % s) f) c n others in
      let m = total_more s (set sizes ((n + c) % s) f) c n in
      m ∙ omega (arith, t, this)

  pub handed_packets : (finished : Bool) (o : ℕ)
      → packets u k s (set sizes ((n + c) % s) f) store finished (c + 1) n o ≡ packets u k s sizes store false c n o ++ packet_of u (o + total s sizes c n) (n + c) finished (slot_of k s store (n + c) f) ∷ []
  handed_packets finished o =
      let t = total_frame s sizes (set sizes ((n + c) % s) f) c n others in
      let p = packets_frame u k s sizes (set sizes ((n + c) % s) f) store store false c n o others (λ m l h. refl) in
      packets_more u k s (set sizes ((n + c) % s) f) store finished c n o ∙ rw (t, p, this)

  pub handed_whole : (was is : Bool) (kept all : List ℕ)
      → kept ++ (bytes_of (packets u k s sizes store was c n (length kept)) ++ slot_of k s store (n + c) f) ≡ all
      → kept ++ (bytes_of (packets u k s (set sizes ((n + c) % s) f) store is (c + 1) n (length kept)) ++ slot_of k s store (n + (c + 1)) 0) ≡ all
  handed_whole was is kept all whole =
      let p = ap bytes_of (handed_packets is (length kept)) ∙ bytes_of_push (packets u k s sizes store false c n (length kept)) _ in
      let q = bytes_same u k s sizes store false was c n (length kept) (length kept) in
      ap (λ (l : List ℕ). kept ++ l) (append-nil _ ∙ p ∙ ap (λ (l : List ℕ). l ++ slot_of k s store (n + c) f) q) ∙ whole

-- each size still fits a slot
pub set_small : (sizes : List ℕ) (j f k : ℕ) → ((i : ℕ) → get_or sizes i 0 ≤ k) → f ≤ k → (i : ℕ) → get_or (set sizes j f) i 0 ≤ k
set_small [] j f k small le i = small i
set_small (x ∷ xs) zero f k small le zero = le
set_small (x ∷ xs) zero f k small le (suc i) = small (suc i)
set_small (x ∷ xs) (suc j) f k small le zero = small zero
set_small (x ∷ xs) (suc j) f k small le (suc i) = set_small xs j f k (λ m. small (suc m)) le i
