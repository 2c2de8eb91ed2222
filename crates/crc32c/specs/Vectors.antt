-- The checksums that RFC 3720, B.4, gives as examples, and that of nine digits, of the definition itself.
-- Assumes nothing.
use Rattle.std.specs.Prelude.{◌≡◌, ℕ, List, [], ◌∷◌, reverse, replicate, codes}
use Rattle.std.specs.List.{range_with_len}
use Rattle.crc.specs.Crc.{sum_of}

abbrev pub read_command : List ℕ
read_command = 1 ∷ 192 ∷ 0 ∷ 0 ∷ 0 ∷ 0 ∷ 0 ∷ 0 ∷ 0 ∷ 0 ∷ 0 ∷ 0 ∷ 0 ∷ 0 ∷ 0 ∷ 0 ∷ 20 ∷ 0 ∷ 0 ∷ 0 ∷ 0 ∷ 0 ∷ 4 ∷ 0 ∷ 0 ∷ 0 ∷ 0 ∷ 20 ∷ 0 ∷ 0 ∷ 0 ∷ 24 ∷ 40 ∷ 0 ∷ 0 ∷ 0 ∷ 0 ∷ 0 ∷ 0 ∷ 0 ∷ 2 ∷ 0 ∷ 0 ∷ 0 ∷ 0 ∷ 0 ∷ 0 ∷ 0 ∷ []

pub record Vectors : Type 0 where
  pub zeros : sum_of 0x82F63B78 (replicate 32 0) ≡ 0x8A91_36AA
  pub ones : sum_of 0x82F63B78 (replicate 32 255) ≡ 0x62A8_AB43
  pub ascending : sum_of 0x82F63B78 (range_with_len 0 32) ≡ 0x46DD_794E
  pub descending : sum_of 0x82F63B78 (reverse (range_with_len 0 32)) ≡ 0x113F_DB5C
  pub command : sum_of 0x82F63B78 read_command ≡ 0xD996_3A56
  pub digits : sum_of 0x82F63B78 (codes "123456789") ≡ 0xE306_9283
