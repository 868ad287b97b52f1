-- What a table of uv keeps.
use Rattle.std.specs.Prelude.{ℕ, ◌<◌, ◌≡◌, List, get_or}
use Rattle.pixel.specs.Luv.{uv}

-- a table has uv at each place
pub record HoldsUv (t : List ℕ) : Type 0 where
  pub at : (k : ℕ) → k < 256 → get_or t k 0 ≡ uv k
