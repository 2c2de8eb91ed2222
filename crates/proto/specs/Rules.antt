-- The fields of the messages that come from outside, by hdfs.proto and the common token. Assumes nothing.
use Rattle.std.specs.Prelude.{ℕ, Bool, true, false, ◌&&◌, List, [], ◌∷◌, length, nat_le, nat_lt}
use Rattle.wire.specs.Find.{part_of}
use Rattle.proto.specs.declared.form.Kind.{Kind}
use Rattle.proto.specs.declared.form.Kind.TheVariants.{Text, Bytes, Uint64, Uint32, Int32}
use Rattle.proto.specs.declared.form.Rule.{Rule}
use Rattle.proto.specs.Form.{is_text, form_of}

abbrev pub required : ℕ → Kind → Rule
required tag kind = record { tag = tag; kind = kind; required = true }

abbrev pub optional : ℕ → Kind → Rule
optional tag kind = record { tag = tag; kind = kind; required = false }

-- ipAddr, hostName, datanodeUuid, xferPort, infoPort, ipcPort, infoSecurePort
unfoldable pub datanode_id : List Rule
datanode_id =
    required 1 Text ∷ required 2 Text ∷ required 3 Text ∷ required 4 Uint32 ∷ required 5 Uint32 ∷ required 6 Uint32 ∷ optional 7 Uint32 ∷ []

-- id, capacity, dfsUsed, remaining, blockPoolUsed, lastUpdate, xceiverCount, location, nonDfsUsed, adminState, cacheCapacity, cacheUsed,
-- lastUpdateMonotonic, upgradeDomain, lastBlockReportTime, lastBlockReportMonotonic, numBlocks
unfoldable pub datanode_info : List Rule
datanode_info =
    required 1 Bytes ∷ optional 2 Uint64 ∷ optional 3 Uint64 ∷ optional 4 Uint64 ∷ optional 5 Uint64 ∷ optional 6 Uint64 ∷ optional 7 Uint32
    ∷ optional 8 Text ∷ optional 9 Uint64 ∷ optional 10 Int32 ∷ optional 11 Uint64 ∷ optional 12 Uint64 ∷ optional 13 Uint64
    ∷ optional 14 Text ∷ optional 15 Uint64 ∷ optional 16 Uint64 ∷ optional 17 Uint32 ∷ []

-- identifier, password, kind, service
unfoldable pub block_token : List Rule
block_token = required 1 Bytes ∷ required 2 Bytes ∷ required 3 Text ∷ required 4 Text ∷ []

-- a datanode is a DatanodeInfoProto in form, with a DatanodeIDProto in form, of at most 256 octets
unfoldable pub is_datanode : List ℕ → Bool
is_datanode bs = nat_le (length bs) 256 && (form_of datanode_info bs && form_of datanode_id (part_of 1 bs))

-- a datanode with the name of its storage, a text, and its type, 0 to 127
abbrev pub is_node : List ℕ → List ℕ → ℕ → Bool
is_node info storage type = is_datanode info && (is_text 64 storage && nat_lt type 128)

-- a token is a TokenProto in form, of at most 1,024 octets
unfoldable pub is_token : List ℕ → Bool
is_token bs = nat_le (length bs) 1024 && form_of block_token bs
