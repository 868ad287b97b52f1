-- What only the code's own functions ask for: bytes and room for the rows.
use Rattle.std.specs.Prelude.{ℕ, ◌*◌, ◌<◌, ◌≤◌}

-- h rows of w × ch samples of eight bytes, and their room
pub record Fitting (w h ch reset raw out : ℕ) : Type 0 where
  pub some : 0 < h
  pub channels : 0 < ch
  pub few : ch ≤ 4
  pub resets : 0 < reset
  pub input : h * (8 * (w * ch)) ≤ raw
  pub room : h * (8 * (w * ch)) ≤ out
