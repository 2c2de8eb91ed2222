-- A datanode of a list in form added. Assumes nothing.
use Rattle.std.proofs.Common.{◌≡◌, ℕ, ◌≤◌, Bool, true, false, ◌&&◌, leb, List, length, Some, Ok, Err, Result, sym, ap, subst, arith}
use Rattle.std.proofs.lemmas.Bool.Decides.{nat_tests}
use Rattle.std.proofs.lemmas.List.{length-map}
use Rattle.proto.specs.declared.block.ClientOperationHeader.{ClientOperationHeader}
use Rattle.proto.specs.declared.block.ExtendedBlock.{ExtendedBlock}
use Rattle.proto.specs.declared.datanode.Datanode.{Datanode}
use Rattle.proto.specs.declared.fixed.Fixed.{Fixed}
use Rattle.replace.specs.declared.choice.NoChoice.{NoChoice}
use Rattle.replace.specs.Choice.{choice_of}
use Rattle.chain.specs.declared.link.Link as Link
use Rattle.namenode.specs.declared.protocol.NamenodeProtocol as NamenodeProtocol
use Rattle.namenode.specs.Entries.{Offer, ask_for}
use Rattle.pipeline.specs.Offers.{node_row, Rows, in_form}
use Rattle.pipeline.specs.Replies.{Reply}
use Rattle.pipeline.specs.Channels.{ChannelView}
use Rattle.pipeline.specs.Adding.{Added, outcome_of, Copied, Copies, Shows, Listed, Adds, Within}

leb_of : (m n : ℕ) (b : Bool) → leb m n && b ≡ true → m ≤ n
leb_of m n b e = grind (arith, nat_tests)

eight : (a : Bool) (n : ℕ) (b : Bool) → a && (leb n 8 && b) ≡ true → n ≤ 8
eight true n b e = leb_of n 8 b e
eight false n b e = absurd (let z : ◌≡◌ {A = ℕ} 0 1 = cc in omega arith)

-- a list in form has eight datanodes at most
few : (offer : Offer) (nodes : List Datanode) → in_form offer ≡ true → Rows offer.rows nodes → length nodes ≤ 8
few offer nodes f rows =
    let h = eight (leb 1 (length offer.rows)) (length offer.rows) _ f in
    omega (arith, h, ap length rows, length-map nodes node_row)

granted : (nodes : List Datanode) (places : ℕ × ℕ) (reply : Reply) → Within nodes (Ok places) → Within nodes (outcome_of reply places)
granted nodes places (Ok _) w = w
granted nodes places (Err why) w = tt

module _ {L : Type 0} (acts : Link.Ghosts L) (nodes : List Datanode) (s t : ChannelView L) (r : Added) where
  -- places were chosen, and the block copied from one to the other
  pub copied : (header : ClientOperationHeader) (choice : Result (ℕ × ℕ) NoChoice) (places : ℕ × ℕ) → Ok places ≡ choice → Copied acts header nodes places s r t → Copies acts header nodes choice s r t
  copied header choice places e d = subst (λ (z : Result (ℕ × ℕ) NoChoice). Copies acts header nodes z s r t) e d

  within_of : (header : ClientOperationHeader) (choice : Result (ℕ × ℕ) NoChoice) → length nodes ≤ 8 → Copies acts header nodes choice s r t → Within nodes r
  within_of header (Err why) h c = subst (Within nodes) (sym c.0) tt
  within_of header (Ok places) h c = subst (Within nodes) (sym c.is) (granted nodes places c.reply (h, c.new_within, c.source_within))

  -- the list that was read is lent, and a datanode of it chosen
  module _ (old lent : List Datanode) (e : lent ≡ nodes) (offer : Offer) (f : in_form offer ≡ true) (rows : Rows offer.rows nodes) (header : ClientOperationHeader) (c : Copies acts header lent (choice_of lent old) s r t) where
    of_nodes : Copies acts header nodes (choice_of nodes old) s r t
    of_nodes = subst (λ (z : List Datanode). Copies acts header z (choice_of z old) s r t) e c

    pub within : Within nodes r
    within = within_of header (choice_of nodes old) (few offer nodes f rows) of_nodes

    pub adds : {N : Type 0} (asks : NamenodeProtocol.Ghosts N) (block : ExtendedBlock) (client : Fixed 64) (left gone table : List Datanode) (n m : N)
        → Shows block offer.token client header
        → asks.lists n (ask_for block.num_bytes left gone) (Some offer) m
        → Adds acts asks block client old left gone table nodes s n r t m
    adds asks block client left gone table n m shows asked = record {
      came = Some offer;
      asked = asked;
      offers = subst (λ (b : Bool). Listed acts block client old offer b nodes s r t) (sym f) (record { rows = rows; header = header; shows = shows; copies = of_nodes });
    }
