use Rattle.std.proofs.Common.{refl, arith}
use Rattle.pipeline.proofs.Asking.{first_rest}
use Rattle.pipeline.proofs.Widths.{type_width, type_widths}
use Rattle.pipeline.proofs.set_up.request_for.Goals as goal

pub returns : goal.returns
returns c = record {
  header = refl;
  stage = refl;
  min = refl;
  max = refl;
  latest = refl;
  chunk = refl;
  nodes = first_rest c.args.nodes.now c.index-nodes-0.result c.requires.0 c.index-nodes-0.is;
  widths = record {
    id = omega arith;
    stamp = omega arith;
    bytes = omega arith;
    least = omega arith;
    most = omega arith;
    latest = omega arith;
    chunk = omega arith;
    first = type_width c.index-nodes-0.result;
    others = type_widths _;
  };
}
