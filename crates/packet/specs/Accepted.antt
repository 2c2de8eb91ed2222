-- Which settings are refused, and what an accepted pair is kept as. Assumes nothing.
use Rattle.std.specs.Prelude.{ℕ, cond, Ok, Err, Result}
use Rattle.packet.specs.declared.size.PacketSize.{PacketSize}
use Rattle.packet.specs.declared.size.settings.SizeError.{SizeError}
use Rattle.packet.specs.declared.size.settings.SizeError.TheVariants as error
use Rattle.packet.specs.Sizes.{chunk_size_refused, packet_size_refused}

-- the chunk size and the packet size, or the first of them that is refused
abbrev pub settings_of : ℕ → ℕ → ℕ → Result (ℕ × ℕ) SizeError
settings_of w c p = cond (chunk_size_refused c) (Err error.Chunk) (cond (packet_size_refused w c p) (Err error.Packet) (Ok (c, p)))

abbrev pub settings : Result PacketSize SizeError → Result (ℕ × ℕ) SizeError
settings (Ok s) = Ok (s.chunk, s.packet)
settings (Err e) = Err e
