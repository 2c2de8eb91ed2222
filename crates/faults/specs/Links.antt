-- The acts of a pipeline with faults. Assumes nothing.
use Rattle.std.specs.Prelude.{◌≡◌, ℕ, Bool, true, false, if◌then◌else◌, ◌⊎◌, List, Some, None, Option}
use Rattle.packet.specs.Frame.{Packet}
use Rattle.packet.specs.Reading.{Reads}
use Rattle.proto.specs.declared.datanode.Datanode.{Datanode}
use Rattle.chain.specs.Acts.{Came}
use Rattle.chain.specs.Meaning.{Seen}
use Rattle.chain.specs.declared.link.Link as Link
use Rattle.faults.specs.declared.faulty_link.FaultyLink.{FaultyLink}
use Rattle.faults.specs.Chances.{hits}
use Rattle.faults.specs.Faults.{first_seqno, Stray, Acts}

abbrev pub due : {C : Type 0} → FaultyLink C → Bool
due a = hits a.rarity a.chance.state

-- another response comes in the place of the one that came; where none came, none comes
abbrev pub Spoils : Option (List ℕ) → Option (List ℕ) → Type 0
Spoils None came = came ≡ None
Spoils (Some response) None = ⊥
Spoils (Some response) (Some other) = Unit {0}

-- a request is lost, so that the pipeline behind does nothing, or its response is another one
abbrev pub Fails : {C : Type 0} → C → (Option (List ℕ) → C → Type 0) → Option (List ℕ) → C → Type 0
Fails c act came d = ((d ≡ c) × (came ≡ None)) ⊎ ((own : Option (List ℕ)) × (act own d × Spoils own came))

-- the packet that is marked as the last, where one was taken since the set up
abbrev pub last_in : Option Packet → Option ℕ → Option ℕ
last_in None last = last
last_in (Some p) last = if p.last then Some p.seqno else last

abbrev pub Marks : Option ℕ → List ℕ → Bool → Option ℕ → Type 0
Marks before frame true after = (p : Option Packet) × (Reads frame p × (after ≡ last_in p before))
Marks before frame false after = after ≡ before

abbrev pub last_after_set_up : Option (List ℕ) → Option ℕ → Option ℕ
last_after_set_up (Some response) last = None
last_after_set_up None last = last

module _ {C : Type 0} (acts : Link.Ghosts C) where
  -- a set up or a transfer that is lost, or has another response
  abbrev pub FailsToSet : FaultyLink C → Datanode → List ℕ → ℕ → Option (List ℕ) → FaultyLink C → Type 0
  FailsToSet a node request least came b = Fails a.inner (λ own c. acts.sets a.inner node request least own c) came b.inner

  abbrev pub FailsToTransfer : FaultyLink C → Datanode → List ℕ → Option (List ℕ) → FaultyLink C → Type 0
  FailsToTransfer a node request came b = Fails a.inner (λ own c. acts.transfers a.inner node request own c) came b.inner

  abbrev pub Sets : FaultyLink C → Datanode → List ℕ → ℕ → Option (List ℕ) → FaultyLink C → Type 0
  Sets a node request least came b =
      Acts (due a) (FailsToSet a node request least came b) (acts.sets a.inner node request least came b.inner)
      × (b.last ≡ last_after_set_up came a.last)

  abbrev pub Puts : FaultyLink C → List ℕ → Bool → FaultyLink C → Type 0
  Puts a frame taken b =
      Acts (due a) ((b.inner ≡ a.inner) × (taken ≡ false)) (acts.puts a.inner frame taken b.inner) × Marks a.last frame taken b.last

  abbrev pub Nexts : (C → Seen) → FaultyLink C → Came → FaultyLink C → Type 0
  Nexts seen a came b =
      Acts (due a) ((b.inner ≡ a.inner) × Stray (first_seqno (seen a.inner).pending) came) (acts.nexts a.inner came b.inner)

  abbrev pub Transfers : FaultyLink C → Datanode → List ℕ → Option (List ℕ) → FaultyLink C → Type 0
  Transfers a node request came b =
      Acts (due a) (FailsToTransfer a node request came b) (acts.transfers a.inner node request came b.inner)
