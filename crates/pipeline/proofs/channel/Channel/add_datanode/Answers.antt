use Rattle.std.proofs.Common.{vec_items, refl, subst}
use Rattle.pipeline.specs.Offers.{OfferRead}
use Rattle.pipeline.proofs.Adding.{adds}
use Rattle.pipeline.proofs.channel.Channel.add_datanode.Goals as goal

pub returns-clause-acts : goal.returns-clause-acts
returns-clause-acts g c =
    let nodes = vec_items c.read_offer.new.list.rows in
    let offer = g.N.NamenodeProtocol.offer c.get_additional_datanode.new.self in
    let read = subst (OfferRead offer nodes) c.in_ok-token.ensures.ok_part c.read_offer.ensures.read in
    adds g.L.Link nodes _ _ c.copy_to_new.result c.args.old.now c.as_slice.result.now c.as_slice.ensures offer read.0 read.1 _ c.copy_to_new.ensures.acts
    g.N.NamenodeProtocol c.args.block c.args.client_name.now c.args.left.now c.args.gone.now (vec_items c.args.list.now.rows) c.args.namenode.now c.get_additional_datanode.new.self
    (record { of_block = refl; of_token = read.2; of_client = refl })
    c.in_ok-get_additional_datanode.ensures
