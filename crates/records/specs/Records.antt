-- Numbers of eight bytes, the least significant first.
use Rattle.std.specs.Prelude.{ℕ, ◌+◌, ◌*◌, false}
use Rattle.lists.specs.Lists.{pick}
use Rattle.seen.specs.Seen.{Seen, inside, four}

unfoldable pub eight : Seen → ℕ → ℕ
eight v at = four false v at + 4294967296 * four false v (at + 4)

-- 0 where the file ends before it
unfoldable pub number_at : Seen → ℕ → ℕ
number_at v at = pick (inside v.size at 8) (eight v at) 0
