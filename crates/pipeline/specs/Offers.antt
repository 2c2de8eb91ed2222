-- A namenode's list of datanodes, read. Assumes nothing.
use Rattle.std.specs.Prelude.{◌≡◌, Bool, true, false, ◌&&◌, List, [], ◌∷◌, map, length, Some, None, Option, nat_le}
use Rattle.proto.specs.declared.datanode.Datanode.{Datanode}
use Rattle.proto.specs.declared.token.Token.{Token}
use Rattle.proto.specs.Messages.{octets_in, info_of}
use Rattle.proto.specs.Rules.{is_node, is_token}
use Rattle.namenode.specs.declared.protocol.Offered.{Offered}
use Rattle.namenode.specs.Entries.{Row, Offer}

-- a row as it is lent
abbrev pub row_in : Offered → Row
row_in o = record { info = o.info.now; storage = o.storage_id.now; kind = o.storage_type }

-- a datanode's octets, the name of its storage and its type
abbrev pub node_row : Datanode → Row
node_row d = record { info = info_of d; storage = octets_in d.storage_id; kind = d.storage_type }

-- these datanodes are those of the rows, in their order
abbrev pub Rows : List Row → List Datanode → Type 0
Rows rows nodes = map node_row nodes ≡ rows

abbrev pub row_in_form : Row → Bool
row_in_form r = is_node r.info r.storage r.kind

abbrev pub rows_in_form : List Row → Bool
rows_in_form [] = true
rows_in_form (r ∷ rows) = row_in_form r && rows_in_form rows

-- one to eight rows, each in form, and a token in form
abbrev pub in_form : Offer → Bool
in_form o =
    nat_le 1 (length o.rows)
    && (nat_le (length o.rows) 8 && (rows_in_form o.rows && is_token o.token))

-- what came of one row
abbrev pub NodeRead : Row → Option Datanode → Type 0
NodeRead row (Some node) = (row_in_form row ≡ true) × (node_row node ≡ row)
NodeRead row None = row_in_form row ≡ false

-- what came of the rows: all datanodes, or one that is not in form
abbrev pub RowsRead : List Row → List Datanode → Bool → Type 0
RowsRead rows nodes true = (rows_in_form rows ≡ true) × Rows rows nodes
RowsRead rows nodes false = rows_in_form rows ≡ false

-- what came of the offer: its datanodes with its token, or nothing where it is not in form
abbrev pub OfferRead : Offer → List Datanode → Option Token → Type 0
OfferRead o nodes (Some token) =
    (in_form o ≡ true) × Rows o.rows nodes × (octets_in token.message ≡ o.token)
OfferRead o nodes None = in_form o ≡ false
