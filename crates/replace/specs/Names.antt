-- The names of the three settings, and what their values say. Assumes nothing.
use Rattle.std.specs.Prelude.{ℕ, Bool, cond, List, map, Some, None, codes, Option}
use Rattle.std.specs.Str.{bytes_eq}
use Rattle.std.specs.Char.{to_ascii_lowercase}
use Rattle.replace.specs.declared.settings.Key.{Key}
use Rattle.replace.specs.declared.settings.Key.TheVariants as key
use Rattle.replace.specs.declared.datanode.Policy.{Policy}
use Rattle.replace.specs.declared.datanode.Policy.TheVariants.{Never, Always, Default}

abbrev pub enable_name : List ℕ
enable_name = codes "dfs.client.block.write.replace-datanode-on-failure.enable"

abbrev pub policy_name : List ℕ
policy_name = codes "dfs.client.block.write.replace-datanode-on-failure.policy"

abbrev pub best_effort_name : List ℕ
best_effort_name = codes "dfs.client.block.write.replace-datanode-on-failure.best-effort"

-- the setting of that name, letter for letter
abbrev pub key_of : List ℕ → Option Key
key_of s =
    cond (bytes_eq s enable_name) (Some key.Enable)
    (cond (bytes_eq s policy_name) (Some key.Policy)
    (cond (bytes_eq s best_effort_name) (Some key.BestEffort) None))

-- equal but for the case of ASCII letters
abbrev pub alike : List ℕ → List ℕ → Bool
alike s t = bytes_eq (map to_ascii_lowercase s) (map to_ascii_lowercase t)

abbrev pub is_true : List ℕ → Bool
is_true s = alike s (codes "true")

abbrev pub policy_of : List ℕ → Policy
policy_of s = cond (alike s (codes "NEVER")) Never (cond (alike s (codes "ALWAYS")) Always Default)
