-- A field that is read from as many octets as it is written with stands there as it is written. Assumes nothing.
use Rattle.std.proofs.Common.{◌≡◌, ℕ, ◌+◌, ◌-◌, ◌*◌, ◌/◌, ◌%◌, Bool, true, false, cond, eqb, List, ◌++◌, length, Ok, Err, Result, sym, ap, ◌∙◌, subst, ⊎_elim, arith}
use Rattle.std.proofs.lemmas.List.{append_assoc, length-append}
use Rattle.std.proofs.lemmas.Bool.{cond-false, ne_eqb, cases_eq}
use Rattle.wire.specs.declared.field.Fault.{Fault}
use Rattle.wire.specs.declared.field.Fault.TheVariants as fault
use Rattle.wire.specs.Octets.{little, AllOctets}
use Rattle.wire.specs.Fields.{WireField, varint, fixed64, part, fixed32, varint_bytes, key, encode}
use Rattle.wire.specs.Read.{varint_at, fixed_at, part_at, is_tag, named, body_at, read_field, and_then}
use Rattle.wire.specs.Laws.{Sound}
use Rattle.wire.proofs.Back.{regroup}
use Rattle.wire.proofs.Encoded.{prefix_is}
use Rattle.wire.proofs.Values.{no_value, both_steps, tested, octets_after, Begins, varint_begins, fixed_begins, part_begins}

-- what is behind the key of a field: a field of that tag and wire type
record Body (kind tag : ℕ) (before rest : List ℕ) (f : WireField) (next : ℕ) : Type 0 where
  sound : Sound f
  v : List ℕ
  written : encode f ≡ varint_bytes (8 * tag + kind) ++ v
  begins : Begins before rest next v

-- the field itself, behind its value
module _ (tag : ℕ) (g f : WireField) (here next : ℕ) (h : named tag g here ≡ Ok (f, next)) where
  has_tag : is_tag tag ≡ true
  has_tag = (tested (is_tag tag) (g, here) (f, next) fault.Key h).0

  this_field : g ≡ f
  this_field = ap (λ z. z.0) (tested (is_tag tag) (g, here) (f, next) fault.Key h).1

  this_end : here ≡ next
  this_end = ap (λ z. z.1) (tested (is_tag tag) (g, here) (f, next) fault.Key h).1

module _ (tag : ℕ) (before rest : List ℕ) (o : AllOctets rest) (f : WireField) (next : ℕ) where
  varint_body : body_at 0 tag (length before) (before ++ rest) ≡ Ok (f, next) → Body 0 tag before rest f next
  unfolding encode
  varint_body h =
      let (x, a, b) = both_steps (varint_at (length before) (before ++ rest)) (λ x. named tag (varint tag x.0) x.1) (f, next) h in
      let r = varint_begins before rest x.0 x.1 o a in
      let e = this_field tag (varint tag x.0) f x.1 next b in
      record {
        sound = subst Sound e (has_tag tag (varint tag x.0) f x.1 next b, r.0);
        v = varint_bytes x.0;
        written = ap encode (sym e);
        begins = subst (λ z. Begins before rest z (varint_bytes x.0)) (this_end tag (varint tag x.0) f x.1 next b) r.1;
      }

  fixed64_body : body_at 1 tag (length before) (before ++ rest) ≡ Ok (f, next) → Body 1 tag before rest f next
  unfolding encode
  fixed64_body h =
      let (x, a, b) = both_steps (fixed_at 8 (length before) (before ++ rest)) (λ x. named tag (fixed64 tag x.0) x.1) (f, next) h in
      let r = fixed_begins 8 before rest x.0 x.1 o a in
      let e = this_field tag (fixed64 tag x.0) f x.1 next b in
      record {
        sound = subst Sound e (has_tag tag (fixed64 tag x.0) f x.1 next b, omega (arith, r.0));
        v = little 8 x.0;
        written = ap encode (sym e);
        begins = subst (λ z. Begins before rest z (little 8 x.0)) (this_end tag (fixed64 tag x.0) f x.1 next b) r.1;
      }

  fixed32_body : body_at 5 tag (length before) (before ++ rest) ≡ Ok (f, next) → Body 5 tag before rest f next
  unfolding encode
  fixed32_body h =
      let (x, a, b) = both_steps (fixed_at 4 (length before) (before ++ rest)) (λ x. named tag (fixed32 tag x.0) x.1) (f, next) h in
      let r = fixed_begins 4 before rest x.0 x.1 o a in
      let e = this_field tag (fixed32 tag x.0) f x.1 next b in
      record {
        sound = subst Sound e (has_tag tag (fixed32 tag x.0) f x.1 next b, omega (arith, r.0));
        v = little 4 x.0;
        written = ap encode (sym e);
        begins = subst (λ z. Begins before rest z (little 4 x.0)) (this_end tag (fixed32 tag x.0) f x.1 next b) r.1;
      }

  part_body : body_at 2 tag (length before) (before ++ rest) ≡ Ok (f, next) → Body 2 tag before rest f next
  unfolding encode
  part_body h =
      let all = before ++ rest in
      let (x, a, b) = both_steps (varint_at (length before) all) (λ x. and_then (part_at x.0 x.1 all) (λ y. named tag (part tag y.0) y.1)) (f, next) h in
      let (y, c, d) = both_steps (part_at x.0 x.1 all) (λ y. named tag (part tag y.0) y.1) (f, next) b in
      let q = varint_begins before rest x.0 x.1 o a in
      let r = part_begins before rest x.0 x.1 y.0 y.1 q.1 c in
      let e = this_field tag (part tag y.0) f y.1 next d in
      let v = varint_bytes x.0 ++ y.0 in
      record {
        sound = subst Sound e (has_tag tag (part tag y.0) f y.1 next d, omega (arith, r.0, q.0));
        v = v;
        written =
            ap encode (sym e)
            ∙ ap (λ z. z ++ y.0) (prefix_is tag (length y.0))
            ∙ append_assoc (key tag 2) (varint_bytes (length y.0)) y.0
            ∙ ap (λ z. key tag 2 ++ (varint_bytes z ++ y.0)) r.0;
        begins = subst (λ z. Begins before rest z v) (this_end tag (part tag y.0) f y.1 next d) r.1;
      }

  body : (kind : ℕ) → body_at kind tag (length before) (before ++ rest) ≡ Ok (f, next) → Body kind tag before rest f next
  body kind h =
      ⊎_elim (λ e. at 0 e varint_body)
      (λ n0.
      ⊎_elim (λ e. at 1 e fixed64_body)
      (λ n1.
      ⊎_elim (λ e. at 2 e part_body)
      (λ n2.
      ⊎_elim (λ e. at 5 e fixed32_body)
      (λ n5.
      let none = sym (cond-false (eqb kind 0) _ _ (ne_eqb kind 0 n0) ∙ cond-false (eqb kind 1) _ _ (ne_eqb kind 1 n1) ∙ cond-false (eqb kind 2) _ _ (ne_eqb kind 2 n2) ∙ cond-false (eqb kind 5) _ _ (ne_eqb kind 5 n5)) ∙ h in
      absurd (never (is_tag tag) none))
      (cases_eq kind 5))
      (cases_eq kind 2))
      (cases_eq kind 1))
      (cases_eq kind 0)
    where
      at : (k : ℕ) → kind ≡ k → (body_at k tag (length before) (before ++ rest) ≡ Ok (f, next) → Body k tag before rest f next) → Body kind tag before rest f next
      at k e go = subst (λ z. Body z tag before rest f next) (sym e) (go (subst (λ z. body_at z tag (length before) (before ++ rest) ≡ Ok (f, next)) e h))

      never : (b : Bool) → cond {A = Result (WireField × ℕ) Fault} b (Err fault.WireType) (Err fault.Key) ≡ Ok (f, next) → ⊥
      never true e = no_value fault.WireType (f, next) e
      never false e = no_value fault.Key (f, next) e

-- a field that is read from as many octets as it is written with: these are the octets that it is written as
pub record Shortest (before rest : List ℕ) (f : WireField) (next : ℕ) : Type 0 where
  pub after : List ℕ
  pub is : rest ≡ encode f ++ after
  pub past : next ≡ length (before ++ encode f)
  pub sound : Sound f

pub shortest : (before rest : List ℕ) (f : WireField) (next : ℕ) → AllOctets rest → read_field (length before) (before ++ rest) ≡ Ok (f, next) → next - length before ≡ length (encode f)
    → Shortest before rest f next
unfolding read_field
shortest before rest f next o h long =
    let all = before ++ rest in
    let (x, a, b) = both_steps (varint_at (length before) all) (λ x. body_at (x.0 % 8) (x.0 / 8) x.1 all) (f, next) h in
    let k = (varint_begins before rest x.0 x.1 o a).1 in
    let p = before ++ k.vs in
    let e : all ≡ p ++ k.after = ap (λ z. before ++ z) k.is ∙ regroup before k.vs k.after in
    let later = octets_after k.vs k.after (subst AllOctets k.is o) in
    let c = body (x.0 / 8) p k.after later f next (x.0 % 8) (sym (λ i. body_at (x.0 % 8) (x.0 / 8) (k.past i) (e i)) ∙ b) in
    let r = c.begins in
    let number : 8 * (x.0 / 8) + x.0 % 8 ≡ x.0 = omega arith in
    let w : encode f ≡ varint_bytes x.0 ++ c.v = c.written ∙ ap (λ z. varint_bytes z ++ c.v) number in
    let l = length-append (varint_bytes x.0) c.v in
    let s : length (varint_bytes x.0) + length c.v ≡ length k.vs + length r.vs = omega (arith, ap length w, r.past, length-append p r.vs, length-append before k.vs) in
    let i1 = k.same (omega (arith, k.least, r.least)) in
    let i2 = r.same (omega (arith, k.least, r.least)) in
    record {
      after = r.after;
      is = k.is ∙ ap (λ z. k.vs ++ z) r.is ∙ sym (append_assoc k.vs r.vs r.after) ∙ sym (λ i. (i1 i ++ i2 i) ++ r.after) ∙ ap (λ z. z ++ r.after) (sym w);
      past = omega (arith, ap length w, r.past, length-append p r.vs, length-append before k.vs, length-append before (encode f));
      sound = c.sound;
    }
