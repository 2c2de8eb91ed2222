-- What a list of names and values says of the three settings. Assumes nothing.
use Rattle.std.specs.Borrow.{Bor}
use Rattle.std.specs.Prelude.{ℕ, true, false, cond, List, [], ◌∷◌, Some, None, Option}
use Rattle.std.specs.Str.{bytes_eq}
use Rattle.replace.specs.declared.datanode.Policy.TheVariants.{Disable, Default}
use Rattle.replace.specs.declared.datanode.ReplaceDatanodeOnFailure.{ReplaceDatanodeOnFailure}
use Rattle.replace.specs.declared.settings.Key.{Key}
use Rattle.replace.specs.declared.settings.Key.TheVariants as key
use Rattle.replace.specs.declared.settings.Settings.{Settings}
use Rattle.replace.specs.Names.{enable_name, policy_name, best_effort_name, key_of, is_true, policy_of}

-- a setting: its name and its value
abbrev pub Pair : Type 0
Pair = List ℕ × List ℕ

abbrev pub or_else : {A : Type 0} → Option A → Option A → Option A
or_else (Some x) y = Some x
or_else None y = y

-- the texts that a list of pairs refers to
abbrev pub texts : List (Bor (List ℕ) × Bor (List ℕ)) → List Pair
texts [] = []
texts (p ∷ ps) = (p.0.now, p.1.now) ∷ texts ps

-- the value of the last pair of that name
abbrev pub last_value : List ℕ → List Pair → Option (List ℕ)
last_value name [] = None
last_value name (p ∷ ps) = or_else (last_value name ps) (cond (bytes_eq p.0 name) (Some p.1) None)

-- what a value says, and what holds where there is none
abbrev pub read : {A : Type 0} → (List ℕ → A) → A → Option (List ℕ) → A
read f absent (Some v) = f v
read f absent None = absent

abbrev pub listed : List Pair → Settings
listed ps = record {
  enable = read is_true true (last_value enable_name ps);
  policy = read policy_of Default (last_value policy_name ps);
  best_effort = read is_true false (last_value best_effort_name ps);
}

abbrev pub defaults : Settings
defaults = record { enable = true; policy = Default; best_effort = false }

-- one more setting
abbrev pub put : Settings → Option Key → List ℕ → Settings
put s (Some key.Enable) value = record { enable = is_true value; policy = s.policy; best_effort = s.best_effort }
put s (Some key.Policy) value = record { enable = s.enable; policy = policy_of value; best_effort = s.best_effort }
put s (Some key.BestEffort) value = record { enable = s.enable; policy = s.policy; best_effort = is_true value }
put s None value = s

abbrev pub changed : Settings → List ℕ → List ℕ → Settings
changed s name value = put s (key_of name) value

-- switched off, nothing is replaced and no second effort is made
abbrev pub chosen : Settings → ReplaceDatanodeOnFailure
chosen s =
    cond s.enable
    (record { policy = s.policy; best_effort = s.best_effort })
    (record { policy = Disable; best_effort = false })
