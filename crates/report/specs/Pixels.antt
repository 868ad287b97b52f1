-- The bytes of a pixel by the channels that a reading tells: two for L, and in a colour picture two more for each of u and v.
use Rattle.std.specs.Prelude.{ℕ, eqb}
use Rattle.lists.specs.Lists.{pick}

unfoldable pub bytes_for : ℕ → ℕ
bytes_for channels = pick (eqb channels 1) 2 6
