-- When a fault comes, and what an answer is that confirms nothing. Assumes nothing.
use Rattle.std.specs.Prelude.{◌≡◌, ℕ, Bool, true, false, ◌⊎◌, not, List, [], ◌∷◌, Some, None, Option, ◌==◌}
use Rattle.packet.specs.Frame.{Packet}
use Rattle.chain.specs.Acts.{Came}
use Rattle.chain.specs.Meaning.{Seen, Nexts}

-- the number of the packet that is to be confirmed next
abbrev pub first_seqno : List Packet → Option ℕ
first_seqno [] = None
first_seqno (p ∷ ps) = Some p.seqno

-- an answer that confirms nothing: it does not pass, or none is awaited, or another number than its own
abbrev pub is_stray : Option ℕ → Option ℕ → Bool
is_stray None awaited = true
is_stray (Some n) None = true
is_stray (Some n) (Some m) = not (n == m)

-- what may come and leaves every pipeline with that number awaited as it was
abbrev pub Stray : Option ℕ → Came → Type 0
Stray awaited came = (s : Seen) → first_seqno s.pending ≡ awaited → Nexts came s s

-- a fault comes when chance has it, and only then
abbrev pub Acts : Bool → Type 0 → Type 0 → Type 0
Acts due fault act = ((due ≡ true) × fault) ⊎ ((due ≡ false) × act)
