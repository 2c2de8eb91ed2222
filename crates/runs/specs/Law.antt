-- No accepted byte is lost, doubled or reordered. Assumes nothing.
use Rattle.std.specs.Prelude.{◌≡◌, ℕ, suc, Bool, true, false, List, [], ◌∷◌, ◌++◌, map, length, replicate, Ok}
use Rattle.packet.specs.Frame.{Packet}
use Rattle.proto.specs.declared.block.ExtendedBlock.{ExtendedBlock}
use Rattle.proto.specs.declared.datanode.Datanode.{Datanode}
use Rattle.proto.specs.Messages.{octets_in, id_of}
use Rattle.held.specs.Slots.{bytes_of, below}
use Rattle.chain.specs.Meaning.{Seen}
use Rattle.namenode.specs.Entries.{Entry}
use Rattle.writer.specs.Closing.{closed}
use Rattle.writer.specs.Views.{View, view_of, held_in, filling_in}
use Rattle.runs.specs.History.{History}
use Rattle.runs.specs.Runs.{Point}

abbrev pub seqnos : List Packet → List ℕ
seqnos ps = map (λ p. p.seqno) ps

abbrev pub lasts : List Packet → List Bool
lasts ps = map (λ p. p.last) ps

-- the kept bytes, the held packets by number and the packet being filled, joined, are the initial bytes and every accepted byte
abbrev pub Whole : History → View → List ℕ → Seen → Type 0
Whole h v store x =
    x.kept ++ (bytes_of (held_in v store (length x.kept)) ++ filling_in v store)
    ≡ h.initial ++ h.accepted

-- heed answers confirmed, or complete, exactly when a packet has left the pending ones
abbrev pub Told : History → Type 0
Told h = h.answered ≡ seqnos h.confirmed

-- the packets confirmed are those from 0 to the last, once each, in that order; the kept bytes are the initial bytes and every accepted byte,
-- and the record has their count
pub record Order (h : History) (x : Seen) (b : ExtendedBlock) : Type 0 where
  pub last : ℕ
  pub numbers : seqnos h.confirmed ≡ below (suc last)
  pub flags : lasts h.confirmed ≡ replicate last false ++ true ∷ []
  pub bytes : x.kept ≡ h.initial ++ h.accepted
  pub size : b.num_bytes ≡ length (h.initial ++ h.accepted)

-- the namenode's entry has the record's stamp and the last pipeline's datanodes, in order
pub record Enters (h : History) (e : Entry) (b : ExtendedBlock) : Type 0 where
  pub stamp : e.stamp ≡ b.generation_stamp
  pub ids : e.ids ≡ map id_of h.chain
  pub storages : e.storages ≡ map (λ (d : Datanode). octets_in d.storage_id) h.chain

module _ {C N : Type 0} (seen : C → Seen) (entry : N → Entry) where
  -- at every point, and when close gives a record
  pub record Law (p : Point C N) : Type 0 where
    pub whole : Whole p.history (view_of p.writer) p.store (seen p.link)
    pub told : Told p.history
    pub order : (b : ExtendedBlock) → closed (view_of p.writer) ≡ Ok b
        → Order p.history (seen p.link) b
    pub enters : (b : ExtendedBlock) → closed (view_of p.writer) ≡ Ok b
        → Enters p.history (entry p.namenode) b
