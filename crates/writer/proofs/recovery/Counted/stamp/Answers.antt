use Rattle.std.proofs.Common.{◌≡◌, Bool, true, Some, Ok, sym, refl, ap, ◌∙◌, subst, arith}
use Rattle.proto.specs.Rules.{is_token}
use Rattle.writer.specs.Stages.{TokenAs}
use Rattle.writer.proofs.recovery.Counted.stamp.Goals as goal

pub returns : goal.returns
returns g c =
    let octets = g.N.NamenodeProtocol.token c.update_block_for_pipeline.new.self in
    let same = c.stamp_token.ensures in
    let stamped : c.update_block_for_pipeline.result ≡ Ok c.in_ok-stamp.stamp = grind arith in
    let e = rw c.in_ok-token.ensures.ok_part at c.new.ensures in
    let good : is_token octets ≡ true = ap is_token (sym same) ∙ e.0 in
    record {
      came = Some (c.in_ok-stamp.stamp, octets);
      acted = rw stamped at c.update_block_for_pipeline.ensures;
      is = subst (λ (b : Bool). TokenAs b c.args.self.least c.in_ok-stamp.stamp octets (Ok (record { least = c.args.self.least; stamp = c.in_ok-stamp.stamp }, c.in_ok-token.token))) (sym good) (c.in_ok-token.token, (e.1 ∙ same, refl));
    }
