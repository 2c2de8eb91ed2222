-- What an opening is read as, and what is settled of it. Assumes nothing.
use Rattle.std.specs.Prelude.{◌≡◌, ◌*◌, ◌^◌, ◌<◌, ◌≤◌, List, length, Some, None, Ok, Err, Option, Result}
use Rattle.proto.specs.declared.datanode.Datanode.{Datanode}
use Rattle.proto.specs.declared.token.Token.{Token}
use Rattle.proto.specs.Messages.{octets_in}
use Rattle.pipeline.specs.Offers.{Rows}
use Rattle.writer.specs.declared.admit.Lengths.{Lengths}
use Rattle.writer.specs.declared.settle.Forms.{Forms}
use Rattle.writer.specs.declared.opening.Opening.{Opening}
use Rattle.writer.specs.declared.refusal.Refusal.{Refusal}
use Rattle.writer.specs.declared.refusal.Refusal.TheVariants as refusal
use Rattle.writer.specs.declared.terms.Terms.{Terms}
use Rattle.writer.specs.Opening.{rows_in, by_form, later_refusal, open_refusal, TermsFor}
use Rattle.writer.specs.Sizes.{capacity}

-- all in form
pub record Forming (o : Opening) (nodes : List Datanode) (f : Forms) : Type 0 where
  pub good : by_form o ≡ None
  pub rows : Rows (rows_in o) nodes
  pub token : octets_in f.token.message ≡ o.token.now
  pub pool : octets_in f.pool_id ≡ o.pool_id.now
  pub client : octets_in f.client_name ≡ o.client_name.now

abbrev pub Formed : Opening → List Datanode → Option Forms → Type 0
Formed o nodes (Some f) = Forming o nodes f
Formed o nodes None = by_form o ≡ Some refusal.Form

-- slots and lengths are in bounds
pub record Fits (t : Terms) : Type 0 where
  pub least : 3 ≤ t.slots
  pub most : t.slots ≤ 101
  pub store : t.slots * capacity t ≤ t.store_len
  pub initial : t.initial_len ≤ t.block_size
  pub block : t.block_size < 2 ^ 63
  pub id : t.block_id < 2 ^ 64

-- none of these refusals fits, and what is settled comes of the opening
pub record Settles (refused : Option Refusal) (o : Opening) (l : Lengths) (nodes : List Datanode)
    (t : Terms) (token : Token) : Type 0 where
  pub good : refused ≡ None
  pub terms : TermsFor o l t
  pub fits : Fits t
  pub given : octets_in token.message ≡ o.token.now
  pub rows : Rows (rows_in o) nodes
  pub some : 1 ≤ length nodes
  pub few : length nodes ≤ 8

abbrev pub SettledBy : Option Refusal → Opening → Lengths → List Datanode
    → Result (Terms × Token) Refusal → Type 0
SettledBy refused o l nodes (Ok x) = Settles refused o l nodes x.0 x.1
SettledBy refused o l nodes (Err e) = refused ≡ Some e

-- the sizes are accepted already
abbrev pub SettledSized : Opening → Lengths → List Datanode → Result (Terms × Token) Refusal
    → Type 0
SettledSized o l nodes r = SettledBy (later_refusal o l) o l nodes r

abbrev pub Settled : Opening → Lengths → List Datanode → Result (Terms × Token) Refusal → Type 0
Settled o l nodes r = SettledBy (open_refusal o l) o l nodes r
