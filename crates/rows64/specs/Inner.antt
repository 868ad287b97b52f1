-- What only the code's own functions ask for and leave: a row's bytes and its room, and its samples where nothing is added.
use Rattle.std.specs.Prelude.{◌≡◌, ℕ, ◌*◌, ◌<◌, ◌≤◌, Bool, List}
use Rattle.lists.specs.Lists.{joined}
use Rattle.words64.specs.Words64.{digits}
use Rattle.rows64.specs.Rows64.{value}

-- a row's bytes and its room
pub record RowFits (w ch reset raw out : ℕ) : Type 0 where
  pub channels : 0 < ch
  pub few : ch ≤ 4
  pub resets : 0 < reset
  pub input : raw ≡ 8 * (w * ch)
  pub room : out ≡ 8 * (w * ch)

-- so many samples of a row without prediction, eight bytes each
unfoldable pub plain_row : Bool → ℕ → List ℕ → List ℕ
plain_row little n row = joined (λ k. digits 8 (value little row k)) 0 n
