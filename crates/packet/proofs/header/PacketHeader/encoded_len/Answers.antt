use Rattle.std.proofs.Common.{sym, ◌∙◌}
use Rattle.packet.proofs.Headers.{header_long}
use Rattle.packet.proofs.header.PacketHeader.encoded_len.Goals as goal

pub returns : goal.returns
returns c = c.header_len.ensures.value ∙ sym (header_long _ _ _ _)
