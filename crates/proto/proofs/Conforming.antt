-- A message in form is written from fields that conform to its table, and every such message is in form. Assumes nothing.
use Rattle.std.proofs.Common.{◌≡◌, ℕ, ◌+◌, ◌-◌, ◌<◌, Bool, true, false, cond, ◌&&◌, eqb, ltb, List, [], ◌∷◌, ◌++◌, length, Some, None, Ok, Err, Result, sym, refl, ap, ◌∙◌, subst, inl, inr, ⊎_elim, arith}
use Rattle.std.proofs.lemmas.List.{append-nil, length-append, nil_from_length}
use Rattle.std.proofs.lemmas.Bool.{cond-true, cond-false, lt-ltb, le-ltb, ltb-true, eq-eqb, ne_eqb, eqb-true, and_parts, and_from, false≢true}
use Rattle.wire.specs.declared.field.Fault.{Fault}
use Rattle.wire.specs.Octets.{AllOctets}
use Rattle.wire.specs.Fields.{WireField, tag_of, encode, encode_all}
use Rattle.wire.specs.Laws.{Sound, AllSound}
use Rattle.wire.specs.Read.{read_field}
use Rattle.wire.proofs.Back.{field_back, some_octets, regroup, joined}
use Rattle.wire.proofs.Shortest.{Shortest, shortest}
use Rattle.wire.proofs.Values.{octets_after}
use Rattle.proto.specs.declared.form.Rule.{Rule}
use Rattle.proto.specs.Form.{fits, absent, present, rule_at, from, form_from}
use Rattle.proto.specs.FormLaw.{rising_from, Conform, Written}

-- the first field is of a rule, so that its tag is above all that stand before these rules
tag_above : (rs : List Rule) (low : ℕ) (f : WireField) (fs : List WireField) → rising_from low rs ≡ true → Conform rs (f ∷ fs) → low < tag_of f
tag_above [] low f fs h c = absurd c
tag_above (r ∷ rs) low f fs h c =
    let p = and_parts (ltb low r.tag) (rising_from r.tag rs) h in
    ⊎_elim (λ t. omega (arith, ltb-true _ _ p.0, t.0)) (λ s. omega (arith, ltb-true _ _ p.0, tag_above rs r.tag f fs p.1 s.1)) c

-- what a rule makes of a field that stands in its place
module _ (r : Rule) (f : WireField) (before after : List ℕ) (sound : Sound f) where
  looked : rule_at r (length before) (before ++ (encode f ++ after)) ≡ present r (length before) (Ok (f, length before + length (encode f)))
  looked =
      let all = before ++ (encode f ++ after) in
      let lt : length before < length all = omega (arith, length-append before (encode f ++ after), length-append (encode f) after, some_octets f) in
      cond-true (ltb (length before) (length all)) _ _ (lt-ltb _ _ lt) ∙ ap (present r (length before)) (field_back f before after sound)

  stepped : tag_of f ≡ r.tag → fits r.kind f ≡ true → rule_at r (length before) (before ++ (encode f ++ after)) ≡ Some (length before + length (encode f))
  stepped t k =
      let l : length before + length (encode f) - length before ≡ length (encode f) = omega arith in
      looked
      ∙ cond-true (eqb (tag_of f) r.tag) _ _ (eq-eqb _ _ t)
      ∙ cond-true (eqb (length before + length (encode f) - length before) (length (encode f)) && fits r.kind f) _ _ (and_from _ _ (eq-eqb _ _ l) k)

  passed : r.tag < tag_of f → r.required ≡ false → rule_at r (length before) (before ++ (encode f ++ after)) ≡ Some (length before)
  passed t k = looked ∙ cond-false (eqb (tag_of f) r.tag) _ _ (ne_eqb _ _ (λ e. omega arith)) ∙ cond-false r.required _ _ k

taken_in : (rules : List Rule) (fs : List WireField) (low : ℕ) (before : List ℕ) → rising_from low rules ≡ true → AllSound fs → Conform rules fs → form_from rules (length before) (before ++ encode_all fs) ≡ true
unfolding encode_all
taken_in [] [] low before h s c = eq-eqb _ _ (ap length (sym (append-nil before)))
taken_in [] (f ∷ fs) low before h s c = absurd c
taken_in (r ∷ rs) [] low before h s c =
    let p = and_parts (ltb low r.tag) (rising_from r.tag rs) h in
    let all = before ++ [] in
    ap (λ z. from z (λ next. form_from rs next all))
    (cond-false (ltb (length before) (length all)) _ _ (le-ltb _ _ (omega (arith, ap length (append-nil before)))) ∙ cond-false r.required _ _ c.0)
    ∙ taken_in rs [] r.tag before p.1 s c.1
taken_in (r ∷ rs) (f ∷ fs) low before h s c =
    let p = and_parts (ltb low r.tag) (rising_from r.tag rs) h in
    let after = encode_all fs in
    let all = before ++ (encode f ++ after) in
    ⊎_elim
    (λ t.
    ap (λ z. from z (λ next. form_from rs next all)) (stepped r f before after s.0 t.0 t.1)
    ∙ (λ i. form_from rs (joined before (encode f) after i) (regroup before (encode f) after i))
    ∙ taken_in rs fs r.tag (before ++ encode f) p.1 s.1 t.2)
    (λ n.
    ap (λ z. from z (λ next. form_from rs next all)) (passed r f before after s.0 (tag_above rs r.tag f fs p.1 n.1) n.0)
    ∙ taken_in rs (f ∷ fs) r.tag before p.1 s n.1)
    c

-- a rule that is passed over
over : (r : Rule) (rs : List Rule) (fs : List WireField) → r.required ≡ false → Conform rs fs → Conform (r ∷ rs) fs
over r rs [] h c = (h, c)
over r rs (f ∷ fs) h c = inr (h, c)

passed_over : (r : Rule) (rs : List Rule) (bs : List ℕ) → r.required ≡ false → Written rs bs → Written (r ∷ rs) bs
passed_over r rs bs h w = record { fields = w.fields; sound = w.sound; conform = over r rs w.fields h w.conform; octets = w.octets }

-- a rule that has its field
stepped_on : (r : Rule) (rs : List Rule) (before rest : List ℕ) (f : WireField) (next : ℕ) → tag_of f ≡ r.tag → fits r.kind f ≡ true → (s : Shortest before rest f next) → Written rs s.after → Written (r ∷ rs) rest
unfolding encode_all
stepped_on r rs before rest f next t k s w = record {
  fields = f ∷ w.fields;
  sound = (s.sound, w.sound);
  conform = inl (t, k, w.conform);
  octets = s.is ∙ ap (λ z. encode f ++ z) w.octets;
}

-- one rule, which leads from its place to the next
module _ (r : Rule) (rs : List Rule) (before rest : List ℕ) (o : AllOctets rest) (later : (before rest : List ℕ) → AllOctets rest → form_from rs (length before) (before ++ rest) ≡ true → Written rs rest) where
  when_absent : (b : Bool) → r.required ≡ b → from (cond b None (Some (length before))) (λ next. form_from rs next (before ++ rest)) ≡ true → Written (r ∷ rs) rest
  when_absent true e h = absurd (false≢true h)
  when_absent false e h = passed_over r rs rest e (later before rest o h)

  when_shortest : (f : WireField) (next : ℕ) → read_field (length before) (before ++ rest) ≡ Ok (f, next) → tag_of f ≡ r.tag → (b : Bool) → (eqb (next - length before) (length (encode f)) && fits r.kind f) ≡ b
      → from (cond b (Some next) None) (λ next. form_from rs next (before ++ rest)) ≡ true → Written (r ∷ rs) rest
  when_shortest f next e t false c h = absurd (false≢true h)
  when_shortest f next e t true c h =
      let p = and_parts (eqb (next - length before) (length (encode f))) (fits r.kind f) c in
      let s = shortest before rest f next o e (eqb-true _ _ p.0) in
      let i : before ++ rest ≡ (before ++ encode f) ++ s.after = ap (λ z. before ++ z) s.is ∙ regroup before (encode f) s.after in
      let w = later (before ++ encode f) s.after (octets_after (encode f) s.after (subst AllOctets s.is o)) (sym (λ j. form_from rs (s.past j) (i j)) ∙ h) in
      stepped_on r rs before rest f next t p.1 s w

  when_read : (f : WireField) (next : ℕ) → read_field (length before) (before ++ rest) ≡ Ok (f, next) → (b : Bool) → eqb (tag_of f) r.tag ≡ b
      → from (cond b (cond (eqb (next - length before) (length (encode f)) && fits r.kind f) (Some next) None) (absent r (length before))) (λ next. form_from rs next (before ++ rest)) ≡ true → Written (r ∷ rs) rest
  when_read f next e true t h = when_shortest f next e (eqb-true _ _ t) (eqb (next - length before) (length (encode f)) && fits r.kind f) refl h
  when_read f next e false t h = when_absent r.required refl h

  when_present : (x : Result (WireField × ℕ) Fault) → read_field (length before) (before ++ rest) ≡ x → from (present r (length before) x) (λ next. form_from rs next (before ++ rest)) ≡ true → Written (r ∷ rs) rest
  when_present (Err e) i h = absurd (false≢true h)
  when_present (Ok x) i h = when_read x.0 x.1 i (eqb (tag_of x.0) r.tag) refl h

  one_rule : (b : Bool) → from (cond b (present r (length before) (read_field (length before) (before ++ rest))) (absent r (length before))) (λ next. form_from rs next (before ++ rest)) ≡ true → Written (r ∷ rs) rest
  one_rule true h = when_present (read_field (length before) (before ++ rest)) refl h
  one_rule false h = when_absent r.required refl h

written_from : (rules : List Rule) (before rest : List ℕ) → AllOctets rest → form_from rules (length before) (before ++ rest) ≡ true → Written rules rest
unfolding encode_all
written_from [] before rest o h =
    let e = eqb-true _ _ h in
    record { fields = []; sound = tt; conform = tt; octets = nil_from_length rest (omega (arith, length-append before rest)) }
written_from (r ∷ rs) before rest o h = one_rule r rs before rest o (λ before rest o h. written_from rs before rest o h) (ltb (length before) (length (before ++ rest))) h

pub in_form_lem : (rules : List Rule) (bs : List ℕ) → rising_from 0 rules ≡ true → Written rules bs → form_from rules 0 bs ≡ true
in_form_lem rules bs h w = ap (form_from rules 0) w.octets ∙ taken_in rules w.fields 0 [] h w.sound w.conform

pub has_fields : (rules : List Rule) (bs : List ℕ) → AllOctets bs → form_from rules 0 bs ≡ true → Written rules bs
has_fields rules bs o h = written_from rules [] bs o h
