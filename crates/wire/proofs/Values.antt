-- A value that is read, and the octets that it is written with: no more than were read, and the same where they are as many. Assumes nothing.
use Rattle.std.proofs.Common.{◌≡◌, ℕ, zero, suc, ◌+◌, ◌-◌, ◌*◌, ◌/◌, ◌%◌, ◌^◌, ◌<◌, ◌≤◌, Bool, true, false, cond, ltb, leb, List, [], ◌∷◌, ◌++◌, length, take, drop, Ok, Err, Result, sym, refl, ap, ◌∙◌, subst, ⊎_elim, mul_assoc, mul_comm, add-mul, pow-suc, arith}
use Rattle.std.proofs.lemmas.Nat.{pow-add}
use Rattle.std.proofs.lemmas.List.{append_assoc, length-append, length-take-le, take-append-drop, drop_at}
use Rattle.std.proofs.lemmas.Bool.{cond-true, cond-false, lt-ltb, le-ltb, ltb-true, leb-true, cases_lt}
use Rattle.wire.specs.declared.field.Fault.{Fault}
use Rattle.wire.specs.declared.field.Fault.TheVariants as fault
use Rattle.wire.specs.Octets.{little, from_little, AllOctets}
use Rattle.wire.specs.Fields.{groups, varint_bytes}
use Rattle.wire.specs.Read.{varint_from, varint_at, fixed_at, part_at, and_then}
use Rattle.wire.proofs.Back.{regroup, little_long}

-- a fault is no value
pub no_value : {X : Type 0} (e : Fault) (x : X) → ◌≡◌ {A = Result X Fault} (Err e) (Ok x) → ⊥
no_value e x h = let z : ◌≡◌ {A = ℕ} 0 1 = cc in absurd (omega arith)

same_value : {X : Type 0} (x y : X) → ◌≡◌ {A = Result X Fault} (Ok x) (Ok y) → x ≡ y
same_value x y h = cc

-- where a chain gives a value, each of its two steps does
pub both_steps : {X Y : Type 0} (r : Result X Fault) (f : X → Result Y Fault) (y : Y) → and_then r f ≡ Ok y → (x : X) × (r ≡ Ok x) × (f x ≡ Ok y)
both_steps (Ok x) f y h = (x, refl, h)
both_steps (Err e) f y h = absurd (no_value e y h)

-- where a test gives a value and not a fault, it is true
pub tested : {X : Type 0} (b : Bool) (x y : X) (e : Fault) → cond b (Ok x) (Err e) ≡ Ok y → (b ≡ true) × (x ≡ y)
tested true x y e h = (refl, same_value x y h)
tested false x y e h = absurd (no_value e y h)

pub octets_after : (xs ys : List ℕ) → AllOctets (xs ++ ys) → AllOctets ys
octets_after [] ys o = o
octets_after (x ∷ xs) ys o = octets_after xs ys o.1

pub octets_before : (xs ys : List ℕ) → AllOctets (xs ++ ys) → AllOctets xs
octets_before [] ys o = tt
octets_before (x ∷ xs) ys o = (o.0, octets_before xs ys o.1)

-- a varint of the octets ys, whose bits weigh `digits`: it is written with no more octets than these, and with these where it is as long
record Taken (k low at : ℕ) (xs : List ℕ) (n next : ℕ) : Type 0 where
  digits : ℕ
  ys : List ℕ
  after : List ℕ
  is : xs ≡ ys ++ after
  past : next ≡ at + length ys
  some : 1 ≤ length ys
  value : n ≡ low + digits * 2 ^ k
  least : (j : ℕ) → length (groups j digits) ≤ length ys
  same : (j : ℕ) → length (groups j digits) ≡ length ys → groups j digits ≡ ys
  small : n < 2 ^ 64

-- the last octet
module _ (k low at b : ℕ) (bs : List ℕ) (lt : b < 128) where
  alone : (j : ℕ) → groups (suc j) b ≡ b ∷ []
  alone j = cond-true (ltb b 128) _ _ (lt-ltb b 128 lt)

  alone_least : (j : ℕ) → length (groups j b) ≤ 1
  alone_least zero = omega arith
  alone_least (suc j) = omega (arith, ap length (alone j))

  alone_same : (j : ℕ) → length (groups j b) ≡ 1 → groups j b ≡ b ∷ []
  alone_same zero h = absurd (omega arith)
  alone_same (suc j) h = alone j

  last : (n next : ℕ) → varint_from k low at (b ∷ bs) ≡ Ok (n, next) → Taken k low at (b ∷ bs) n next
  last n next h =
      let t = tested (ltb (low + b * 2 ^ k) (2 ^ 64)) (low + b * 2 ^ k, at + 1) (n, next) fault.Varint (sym (cond-true (ltb b 128) _ _ (lt-ltb b 128 lt)) ∙ h) in
      let e : low + b * 2 ^ k ≡ n = ap (λ z. z.0) t.1 in
      record {
        digits = b;
        ys = b ∷ [];
        after = bs;
        is = refl;
        past = sym (ap (λ z. z.1) t.1);
        some = omega arith;
        value = sym e;
        least = alone_least;
        same = alone_same;
        small = omega (arith, e, ltb-true _ _ t.0);
      }

-- an octet that another one follows
weighed : (d m p : ℕ) → d * p + m * (p * 128) ≡ (d + 128 * m) * p
weighed d m p = omega (arith, add-mul d (128 * m) p, mul_assoc 128 m p, mul_assoc m p 128, mul_comm (m * p) 128)

module _ (k low at b : ℕ) (bs : List ℕ) (ge : 128 ≤ b) (byte : b < 256) (n next : ℕ) (t : Taken (k + 7) (low + (b - 128) * 2 ^ k) (at + 1) bs n next) where
  abbrev all : ℕ
  all = b - 128 + 128 * t.digits

  -- written, the number has one octet alone or begins with this one
  starts : (j : ℕ) → 128 ≤ all → groups (suc j) all ≡ b ∷ groups j t.digits
  starts j h =
      let x : all % 128 + 128 ≡ b = omega arith in
      let y : all / 128 ≡ t.digits = omega arith in
      cond-false (ltb all 128) _ _ (le-ltb all 128 h) ∙ (λ i. x i ∷ groups j (y i))

  short : (j : ℕ) → all < 128 → length (groups (suc j) all) ≡ 1
  short j h = ap length (cond-true (ltb all 128) (all ∷ []) ((all % 128 + 128) ∷ groups j (all / 128)) (lt-ltb all 128 h))

  more_least : (j : ℕ) → length (groups j all) ≤ suc (length t.ys)
  more_least zero = omega arith
  more_least (suc j) = ⊎_elim (λ l. omega (arith, short j l)) (λ g. omega (arith, ap length (starts j g), t.least j)) (cases_lt all 128)

  more_same : (j : ℕ) → length (groups j all) ≡ suc (length t.ys) → groups j all ≡ b ∷ t.ys
  more_same zero h = absurd (omega arith)
  more_same (suc j) h =
      ⊎_elim
      (λ l. absurd (omega (arith, short j l, t.some)))
      (λ g. starts j g ∙ ap (λ z. b ∷ z) (t.same j (omega (arith, ap length (starts j g)))))
      (cases_lt all 128)

  more : Taken k low at (b ∷ bs) n next
  more = record {
    digits = all;
    ys = b ∷ t.ys;
    after = t.after;
    is = ap (λ z. b ∷ z) t.is;
    past = omega (arith, t.past);
    some = omega arith;
    value = t.value ∙ ap (λ z. low + (b - 128) * 2 ^ k + t.digits * z) (pow-add 2 k 7) ∙ omega (arith, weighed (b - 128) t.digits (2 ^ k));
    least = more_least;
    same = more_same;
    small = t.small;
  }

taken : (k low at : ℕ) (xs : List ℕ) (n next : ℕ) → AllOctets xs → varint_from k low at xs ≡ Ok (n, next) → Taken k low at xs n next
taken k low at [] n next o h = absurd (no_value fault.End (n, next) h)
taken k low at (b ∷ bs) n next o h =
    ⊎_elim
    (λ lt. last k low at b bs lt n next h)
    (λ ge.
    let e = sym (cond-false (ltb b 128) _ _ (le-ltb b 128 ge)) ∙ h in
    more k low at b bs ge o.0 n next (taken (k + 7) (low + (b - 128) * 2 ^ k) (at + 1) bs n next o.1 (goes (ltb k 63) _ e)))
    (cases_lt b 128)
  where
    goes : (c : Bool) (r : Result (ℕ × ℕ) Fault) → cond c r (Err fault.Varint) ≡ Ok (n, next) → r ≡ Ok (n, next)
    goes true r e = e
    goes false r e = absurd (no_value fault.Varint (n, next) e)

-- the octets vs at the front of `rest`, and the octets v that what they say is written with: no more than these, and these where they are as many
pub record Begins (before rest : List ℕ) (next : ℕ) (v : List ℕ) : Type 0 where
  pub vs : List ℕ
  pub after : List ℕ
  pub is : rest ≡ vs ++ after
  pub past : next ≡ length (before ++ vs)
  pub least : length v ≤ length vs
  pub same : length v ≡ length vs → v ≡ vs

pub varint_begins : (before rest : List ℕ) (n next : ℕ) → AllOctets rest → varint_at (length before) (before ++ rest) ≡ Ok (n, next) → (n < 2 ^ 64) × Begins before rest next (varint_bytes n)
unfolding varint_at varint_bytes
varint_begins before rest n next o h =
    let t = taken 0 0 (length before) rest n next o (sym (ap (varint_from 0 0 (length before)) (drop_at before rest (length before) refl)) ∙ h) in
    let e : t.digits ≡ n = omega (arith, t.value) in (
      t.small,
      record {
        vs = t.ys;
        after = t.after;
        is = t.is;
        past = t.past ∙ sym (length-append before t.ys);
        least = subst (λ z. length (groups 10 z) ≤ length t.ys) e (t.least 10);
        same = subst (λ z. length (groups 10 z) ≡ length t.ys → groups 10 z ≡ t.ys) e (t.same 10);
      },
    )

-- eight or four octets: the number of them is written as they are
little_same : (vs : List ℕ) → AllOctets vs → (little (length vs) (from_little vs) ≡ vs) × (from_little vs < 256 ^ length vs)
little_same [] o = (refl, omega arith)
little_same (b ∷ vs) o =
    let r = little_same vs o.1 in
    let m = from_little vs in
    let x : (b + 256 * m) % 256 ≡ b = omega (arith, o.0) in
    let y : (b + 256 * m) / 256 ≡ m = omega (arith, o.0) in
    ((λ i. x i ∷ little (length vs) (y i)) ∙ ap (λ z. b ∷ z) r.0, omega (arith, r.1, o.0, pow-suc 256 (length vs)))

pub fixed_begins : (k : ℕ) (before rest : List ℕ) (n next : ℕ) → AllOctets rest → fixed_at k (length before) (before ++ rest) ≡ Ok (n, next) → (n < 256 ^ k) × Begins before rest next (little k n)
fixed_begins k before rest n next o h =
    let t = tested (leb (length before + k) (length (before ++ rest))) (from_little (take k (drop (length before) (before ++ rest))), length before + k) (n, next) fault.End h in
    let vs = take k rest in
    let fits : k ≤ length rest = omega (arith, leb-true _ _ t.0, length-append before rest) in
    let size : length vs ≡ k = length-take-le k rest fits in
    let split : vs ++ drop k rest ≡ rest = take-append-drop k rest in
    let r = little_same vs (octets_before vs (drop k rest) (subst AllOctets (sym split) o)) in
    let e : from_little vs ≡ n = ap (λ z. from_little (take k z)) (sym (drop_at before rest (length before) refl)) ∙ ap (λ z. z.0) t.1 in
    let l : length before + k ≡ next = ap (λ z. z.1) t.1 in (
      subst (λ z. z < 256 ^ k) e (subst (λ z. from_little vs < 256 ^ z) size r.1),
      record {
        vs = vs;
        after = drop k rest;
        is = sym split;
        past = omega (arith, length-append before vs);
        least = omega (arith, little_long k n);
        same = λ _. sym (λ i. little (size i) (e i)) ∙ r.0;
      },
    )

-- a part behind its length
pub part_begins : (before rest : List ℕ) (size here : ℕ) (bs : List ℕ) (next : ℕ) → Begins before rest here (varint_bytes size) → part_at size here (before ++ rest) ≡ Ok (bs, next)
    → (length bs ≡ size) × Begins before rest next (varint_bytes size ++ bs)
part_begins before rest size here bs next r h =
    let p = before ++ r.vs in
    let e : before ++ rest ≡ p ++ r.after = ap (λ z. before ++ z) r.is ∙ regroup before r.vs r.after in
    let h' = sym (λ i. part_at size (r.past i) (e i)) ∙ h in
    let t = tested (leb (length p + size) (length (p ++ r.after))) (take size (drop (length p) (p ++ r.after)), length p + size) (bs, next) fault.End h' in
    let fits : size ≤ length r.after = omega (arith, leb-true _ _ t.0, length-append p r.after) in
    let x : take size r.after ≡ bs = ap (take size) (sym (drop_at p r.after (length p) refl)) ∙ ap (λ z. z.0) t.1 in
    let l : length bs ≡ size = sym (ap length x) ∙ length-take-le size r.after fits in
    let m : length p + size ≡ next = ap (λ z. z.1) t.1 in
    let a = length-append (varint_bytes size) bs in
    let b = length-append r.vs bs in (
      l,
      record {
        vs = r.vs ++ bs;
        after = drop size r.after;
        is = r.is ∙ ap (λ z. r.vs ++ z) (sym (take-append-drop size r.after) ∙ ap (λ z. z ++ drop size r.after) x) ∙ sym (append_assoc r.vs bs (drop size r.after));
        past = omega (arith, length-append before (r.vs ++ bs), length-append before r.vs);
        least = omega (arith, r.least);
        same = λ q. ap (λ z. z ++ bs) (r.same (omega arith));
      },
    )
