-- What only the code's own functions ask for and leave: rows of zeros, and room for them.
use Rattle.std.specs.Prelude.{ℕ, ◌+◌, ◌*◌, ◌<◌, ◌≤◌, List, replicate}

-- a row of so many zeros, whichever row it is
unfoldable pub zero_row : ℕ → ℕ → List ℕ
zero_row size r = replicate size 0

-- room for rows of so many bytes in a picture, the first row at `first`, each further one a pitch later
pub record Clearable (size rows first pitch out : ℕ) : Type 0 where
  pub pitch_in : pitch ≤ out
  pub rows_in : (r : ℕ) → r < rows → first + r * pitch + size ≤ out
