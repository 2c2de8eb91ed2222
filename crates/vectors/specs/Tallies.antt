-- One line more of a kind: its own count rises, up to what 32 bits hold, and the others stay. Assumes nothing.
use Rattle.std.specs.Prelude.{ℕ, ◌+◌, ◌-◌, ◌^◌, min}
use Rattle.vectors.specs.declared.tally.Kind.{Kind}
use Rattle.vectors.specs.declared.tally.Kind.TheVariants as kind
use Rattle.vectors.specs.declared.tally.Tally.{Tally}

abbrev pub more : ℕ → ℕ
more n = min (n + 1) (2 ^ 32 - 1)

abbrev pub agreed_on : Tally → Kind → Tally
agreed_on t kind.Frame = record { frames = more t.frames; writes = t.writes; transfers = t.transfers; answers = t.answers; responses = t.responses; differing = t.differing }
agreed_on t kind.Write = record { frames = t.frames; writes = more t.writes; transfers = t.transfers; answers = t.answers; responses = t.responses; differing = t.differing }
agreed_on t kind.Transfer = record { frames = t.frames; writes = t.writes; transfers = more t.transfers; answers = t.answers; responses = t.responses; differing = t.differing }
agreed_on t kind.Answer = record { frames = t.frames; writes = t.writes; transfers = t.transfers; answers = more t.answers; responses = t.responses; differing = t.differing }
agreed_on t kind.Response = record { frames = t.frames; writes = t.writes; transfers = t.transfers; answers = t.answers; responses = more t.responses; differing = t.differing }

abbrev pub differed_in : Tally → Tally
differed_in t = record { frames = t.frames; writes = t.writes; transfers = t.transfers; answers = t.answers; responses = t.responses; differing = more t.differing }

abbrev pub nothing : Tally
nothing = record { frames = 0; writes = 0; transfers = 0; answers = 0; responses = 0; differing = 0 }
