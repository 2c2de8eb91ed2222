-- The settings of a list with one more pair. Assumes nothing.
use Rattle.std.proofs.Common.{◌≡◌, ℕ, ◌+◌, ◌<◌, Bool, true, false, cond, List, [], ◌∷◌, ◌++◌, length, get_or, take, Some, None, Option, sym, refl, ap, ◌∙◌, Bor}
use Rattle.std.proofs.lemmas.List.{take_more}
use Rattle.std.specs.Str.{bytes_eq}
use Rattle.std.proofs.lemmas.Bool.{false≢true}
use Rattle.std.proofs.lemmas.Slice.Eq.{bytes_eq-Decides}
use Rattle.replace.specs.declared.settings.Key.TheVariants as key
use Rattle.replace.specs.declared.settings.Settings.{Settings}
use Rattle.replace.specs.declared.datanode.Policy.TheVariants.{Default}
use Rattle.replace.specs.Names.{enable_name, policy_name, best_effort_name, is_true, policy_of}
use Rattle.replace.specs.Listed.{Pair, or_else, last_value, read, listed, changed, put, texts}

or_assoc : {A : Type 0} (x y z : Option A) → or_else (or_else x y) z ≡ or_else x (or_else y z)
or_assoc (Some x) y z = refl
or_assoc None y z = refl

-- a pair behind the others goes before them
last_push : (name : List ℕ) (ps : List Pair) (p : Pair) → last_value name (ps ++ p ∷ []) ≡ or_else (last_value name (p ∷ [])) (last_value name ps)
last_push name [] p = go (or_else None (cond (bytes_eq p.0 name) (Some p.1) None))
  where
    go : (o : Option (List ℕ)) → o ≡ or_else o None
    go (Some x) = refl
    go None = refl
last_push name (q ∷ ps) p =
    ap (λ o. or_else o (cond (bytes_eq q.0 name) (Some q.1) None)) (last_push name ps p)
    ∙ or_assoc (last_value name (p ∷ [])) (last_value name ps) (cond (bytes_eq q.0 name) (Some q.1) None)

-- what the setting of that name is after one more pair
read_push : {A : Type 0} (f : List ℕ → A) (absent : A) (name : List ℕ) (ps : List Pair) (p : Pair)
    → read f absent (last_value name (ps ++ p ∷ [])) ≡ cond (bytes_eq p.0 name) (f p.1) (read f absent (last_value name ps))
read_push f absent name ps p = ap (read f absent) (last_push name ps p) ∙ go (bytes_eq p.0 name)
  where
    go : (b : Bool) → read f absent (or_else (cond b (Some p.1) None) (last_value name ps)) ≡ cond b (f p.1) (read f absent (last_value name ps))
    go true = refl
    go false = refl

-- the three settings one by one, by whether the name is theirs
abbrev each_of : Settings → List ℕ → Bool → Bool → Bool → Settings
each_of s value e p b = record {
  enable = cond e (is_true value) s.enable;
  policy = cond p (policy_of value) s.policy;
  best_effort = cond b (is_true value) s.best_effort;
}

-- a text is not two
other_name : (s a b : List ℕ) → bytes_eq a b ≡ false → bytes_eq s a ≡ true → bytes_eq s b ≡ false
other_name s a b d h = ap (λ x. bytes_eq x b) ((bytes_eq-Decides s a).0 h) ∙ d

changes_each : (s : Settings) (name value : List ℕ) → changed s name value ≡ each_of s value (bytes_eq name enable_name) (bytes_eq name policy_name) (bytes_eq name best_effort_name)
changes_each s name value =
    go (bytes_eq name enable_name) (bytes_eq name policy_name) (bytes_eq name best_effort_name)
    (other_name name enable_name policy_name refl) (other_name name enable_name best_effort_name refl) (other_name name policy_name best_effort_name refl)
  where
    go : (e p b : Bool) → (e ≡ true → p ≡ false) → (e ≡ true → b ≡ false) → (p ≡ true → b ≡ false)
        → put s (cond e (Some key.Enable) (cond p (Some key.Policy) (cond b (Some key.BestEffort) None))) value ≡ each_of s value e p b
    go true true b h i j = absurd (false≢true (sym (h refl)))
    go true false true h i j = absurd (false≢true (sym (i refl)))
    go true false false h i j = refl
    go false true true h i j = absurd (false≢true (sym (j refl)))
    go false true false h i j = refl
    go false false true h i j = refl
    go false false false h i j = refl

-- one more pair changes the settings as `set` does
pub listed_push : (ps : List Pair) (p : Pair) → listed (ps ++ p ∷ []) ≡ changed (listed ps) p.0 p.1
listed_push ps p =
    (λ i. record {
      enable = read_push is_true true enable_name ps p i;
      policy = read_push policy_of Default policy_name ps p i;
      best_effort = read_push is_true false best_effort_name ps p i;
    })
    ∙ sym (changes_each (listed ps) p.0 p.1)

pub texts_push : (rs : List (Bor (List ℕ) × Bor (List ℕ))) (r : Bor (List ℕ) × Bor (List ℕ)) → texts (rs ++ r ∷ []) ≡ texts rs ++ (r.0.now, r.1.now) ∷ []
texts_push [] r = refl
texts_push (q ∷ rs) r = ap (λ z. (q.0.now, q.1.now) ∷ z) (texts_push rs r)

-- the turn at the pair i
pub listed_more : (rs : List (Bor (List ℕ) × Bor (List ℕ))) (i : ℕ) (d : Bor (List ℕ) × Bor (List ℕ)) (s : Settings)
    → i < length rs → s ≡ listed (texts (take i rs)) → changed s (get_or rs i d).0.now (get_or rs i d).1.now ≡ listed (texts (take (i + 1) rs))
listed_more rs i d s h e =
    let r = get_or rs i d in
    ap (λ z. changed z r.0.now r.1.now) e
    ∙ sym (ap (λ z. listed (texts z)) (take_more rs i d h) ∙ ap listed (texts_push (take i rs) r) ∙ listed_push (texts (take i rs)) (r.0.now, r.1.now))
