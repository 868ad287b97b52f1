-- CRC-32 of bytes, as zlib computes it: bit by bit, each byte's lowest bit first.
use Rattle.std.specs.Prelude.{ℕ, zero, suc, ◌/◌, ◌%◌, List, [], ◌∷◌, eqb}
use Rattle.std.specs.Int.Bits.{bit_xor}
use Rattle.lists.specs.Lists.{pick}

-- halved, and combined with the polynomial where the lowest bit was 1
unfoldable pub bit_step : ℕ → ℕ
bit_step c = pick (eqb (c % 2) 1) (bit_xor (c / 2) 3988292384) (c / 2)

unfoldable pub bit_steps : ℕ → ℕ → ℕ
bit_steps zero c = c
bit_steps (suc n) c = bit_step (bit_steps n c)

unfoldable pub byte_step : ℕ → ℕ → ℕ
byte_step c b = bit_steps 8 (bit_xor c b)

unfoldable pub byte_steps : ℕ → List ℕ → ℕ
byte_steps c [] = c
byte_steps c (b ∷ rest) = byte_steps (byte_step c b) rest

-- all bits are inverted at the start and at the end
unfoldable pub crc_of : List ℕ → ℕ
crc_of bytes = bit_xor (byte_steps 4294967295 bytes) 4294967295
