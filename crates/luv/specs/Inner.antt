-- What only the code's own functions ask for: planes and room for the rows that they are to make.
use Rattle.std.specs.Prelude.{ℕ, ◌+◌, ◌*◌, ◌<◌, ◌≤◌}
use Rattle.head.specs.Heads.{Head, planes_of, bytes_of}

-- planes for so many rows, and room for n pixels of each in a picture, the first row at `first`, each further one a pitch later
pub record Scatterable (head : Head) (w n rows first pitch planes out : ℕ) : Type 0 where
  pub columns : n ≤ w
  pub planes_in : rows * (planes_of head * w) ≤ planes
  pub rows_in : (r : ℕ) → r < rows → first + r * pitch + bytes_of head * n ≤ out
