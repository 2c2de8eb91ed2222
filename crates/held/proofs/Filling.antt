-- Bytes that come into the slot being filled. Assumes nothing.
use Rattle.std.proofs.Common.{◌≡◌, ℕ, ◌+◌, ◌*◌, ◌%◌, ◌<◌, ◌≤◌, Bool, ◌≢◌, List, ◌++◌, length, get_or, take, drop, sym, refl, ap, ◌∙◌, ⊎_elim, append_assoc, mul-le-mul_right, suc-mul, arith, length-append, length-drop, length-take}
use borrow.Rule.Slice.PartMut.{put_mid}
use Rattle.std.proofs.lemmas.List.{drop-take, drop-append-le}
use Rattle.std.proofs.lemmas.Slice.{take-put_mid_below, take-put_mid, drop-put_mid}
use Rattle.std.proofs.lemmas.Bool.{cases_lt}
use Rattle.packet.specs.Frame.{Packet}
use Rattle.held.specs.Slots.{size_at, slot_of, packets, bytes_of}
use Rattle.held.proofs.Packets.{slot_within}
use Rattle.held.proofs.Apart.{slots_apart, packets_frame}

-- a write to a part leaves what lies before it and after it, and adds to what ends where it begins
module _ (xs ys : List ℕ) (a n : ℕ) (within : a + n ≤ length xs) (long : length ys ≡ n) where
  pub kept_before : (p m : ℕ) → p + m ≤ a → take m (drop p (put_mid a n xs ys)) ≡ take m (drop p xs)
  kept_before p m h = sym (drop-take p m (put_mid a n xs ys)) ∙ ap (drop p) (take-put_mid_below a n xs ys (p + m) h (omega arith)) ∙ drop-take p m xs

  pub kept_after : (p m : ℕ) → a + n ≤ p → take m (drop p (put_mid a n xs ys)) ≡ take m (drop p xs)
  kept_after p m h = ap (take m) (drop-put_mid a n xs ys p h (omega arith) long)

  pub grown : (p f : ℕ) → p + f ≡ a → take (f + n) (drop p (put_mid a n xs ys)) ≡ take f (drop p xs) ++ ys
  grown p f e =
      sym (drop-take p (f + n) (put_mid a n xs ys))
      ∙ ap (drop p) (take-put_mid a n xs ys (p + (f + n)) (omega arith) (omega arith))
      ∙ drop-append-le p (take a xs) ys (simp length-take (omega arith))
      ∙ ap (λ (l : List ℕ). l ++ ys) (ap (λ (m : ℕ). drop p (take m xs)) (sym e) ∙ drop-take p f xs)

  pub put_long : length (put_mid a n xs ys) ≡ length xs
  put_long = simp (length-append, length-take, length-drop) (omega arith)

-- m bytes ys come into the slot of packet n + c, after its f bytes
module _ (u k s : ℕ) (sizes store ys : List ℕ) (c n f m : ℕ) (less : c < s) (small : (i : ℕ) → get_or sizes i 0 ≤ k) (fits : s * k ≤ length store) (room : f + m ≤ k) (long : length ys ≡ m) where
  from : ℕ
  from = ((n + c) % s) * k + f

  within : from + m ≤ length store
  unfolding from
  within = omega (arith, slot_within k s (n + c) (omega arith))

  elsewhere : (j z : ℕ) → z ≤ k → j % s ≢ (n + c) % s → slot_of k s (put_mid from m store ys) j z ≡ slot_of k s store j z
  unfolding from
  elsewhere j z le other = ⊎_elim
      (λ (h : j % s < (n + c) % s). kept_before store ys from m within long ((j % s) * k) z (omega (arith, mul-le-mul_right k h, suc-mul (j % s) k)))
      (λ (h : (n + c) % s ≤ j % s). let g : (n + c) % s < j % s = omega arith in kept_after store ys from m within long ((j % s) * k) z (omega (arith, mul-le-mul_right k g, suc-mul ((n + c) % s) k)))
      (cases_lt (j % s) ((n + c) % s))

  taken_packets : (finished : Bool) (o : ℕ) → packets u k s sizes (put_mid from m store ys) finished c n o ≡ packets u k s sizes store finished c n o
  taken_packets finished o = packets_frame u k s sizes sizes store (put_mid from m store ys) finished c n o (λ j l h. refl) (λ j l h. elsewhere j (size_at s sizes j) (small (j % s)) (slots_apart s j (n + c) h (omega arith)))

  taken_filling : slot_of k s (put_mid from m store ys) (n + c) (f + m) ≡ slot_of k s store (n + c) f ++ ys
  unfolding from
  taken_filling = grown store ys from m within long (((n + c) % s) * k) f refl

pub record Taken (u k s : ℕ) (sizes store' ys : List ℕ) (finished : Bool) (c n f m : ℕ) (kept all : List ℕ) (ps : ℕ → List Packet) : Type 0 where
  pub whole : kept ++ (bytes_of (packets u k s sizes store' finished c n (length kept)) ++ slot_of k s store' (n + c) (f + m)) ≡ all ++ ys
  pub same : (o : ℕ) → packets u k s sizes store' finished c n o ≡ ps o

pub takes_in : (u k s : ℕ) (sizes store store' ys : List ℕ) (finished : Bool) (c n f m : ℕ) (kept all : List ℕ)
    → c < s → ((i : ℕ) → get_or sizes i 0 ≤ k) → s * k ≤ length store → f + m ≤ k → length ys ≡ m
    → store' ≡ put_mid (((n + c) % s) * k + f) m store ys
    → kept ++ (bytes_of (packets u k s sizes store finished c n (length kept)) ++ slot_of k s store (n + c) f) ≡ all
    → Taken u k s sizes store' ys finished c n f m kept all (packets u k s sizes store finished c n)
unfolding from
takes_in u k s sizes store store' ys finished c n f m kept all less small fits room long put whole =
    let p = taken_packets u k s sizes store ys c n f m less small fits room long finished in
    let q = taken_filling u k s sizes store ys c n f m less small fits room long in
    record {
      whole = rw (put, p (length kept), q, ← whole) (simp append_assoc);
      same = λ o. rw (put) (p o);
    }
