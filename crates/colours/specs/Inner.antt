-- What only the code's own functions ask for: rows of pixels that are cut into blocks.
use Rattle.std.specs.Prelude.{ℕ, ◌<◌}

-- sides by which one can divide
pub record Gridded (width bw bh : ℕ) : Type 0 where
  pub some_wide : 0 < width
  pub block_wide : 0 < bw
  pub block_high : 0 < bh
