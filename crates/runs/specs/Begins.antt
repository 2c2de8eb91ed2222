-- How a run begins: a block is opened without refusal, over a pipeline and a namenode that have what it was opened with.
-- Assumes nothing.
use Rattle.std.specs.Prelude.{◌≡◌, ℕ, List, length, map, None}
use Rattle.proto.specs.declared.datanode.Datanode.{Datanode}
use Rattle.proto.specs.Messages.{octets_in, id_of}
use Rattle.chain.specs.declared.link.Link as Link
use Rattle.chain.specs.Meaning.{Seen}
use Rattle.namenode.specs.Entries.{Entry}
use Rattle.pipeline.specs.Channels.{channel_over}
use Rattle.pipeline.specs.Offers.{Rows}
use Rattle.writer.specs.declared.opening.Opening.{Opening}
use Rattle.writer.specs.Admits.{lengths_of}
use Rattle.writer.specs.Opening.{rows_in, open_refusal, Opens}
use Rattle.writer.specs.Views.{view_of}
use Rattle.runs.specs.History.{begun}
use Rattle.runs.specs.Runs.{Point}

module _ {C N : Type 0} (acts : Link.Ghosts C) (seen : C → Seen) (entry : N → Entry) where
  -- the pipeline's kept bytes are the initial ones, as many as the opening says; the namenode's entry names the
  -- opening's stamp and datanodes; `link` was the pipeline before the opening set it up
  pub record Begins (o : Opening) (link : C) (p : Point C N) : Type 0 where
    pub frame : List ℕ
    pub request : List ℕ
    pub request' : List ℕ
    pub answer : List ℕ
    pub answer' : List ℕ
    pub opens : Opens acts (open_refusal o (lengths_of p.store frame request answer)) o
        (lengths_of p.store frame request answer) (channel_over link request answer)
        None (view_of p.writer) (channel_over p.link request' answer')
    pub nodes : List Datanode
    pub listed : Rows (rows_in o) nodes
    pub initial : length (seen link).kept ≡ o.initial_len
    pub stamp : (entry p.namenode).stamp ≡ o.stamp
    pub ids : (entry p.namenode).ids ≡ map id_of nodes
    pub storages : (entry p.namenode).storages
        ≡ map (λ (d : Datanode). octets_in d.storage_id) nodes
    pub history : p.history ≡ begun (seen link).kept nodes
