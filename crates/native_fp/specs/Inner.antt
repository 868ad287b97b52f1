-- What only the code's own functions ask for: what the checks leave for the work.
use Rattle.std.specs.Prelude.{ℕ, ◌*◌, ◌/◌, ◌%◌, ◌<◌, ◌≤◌, ◌≡◌}

-- sizes that divide, and buffers with room
pub record Sized (row ch bytes raw scratch out : ℕ) : Type 0 where
  pub some : 0 < row
  pub channels : 0 < ch
  pub narrow : ch ≤ row
  pub parts : 0 < bytes
  pub samples : row % bytes ≡ 0
  pub whole : raw / row * row ≡ raw
  pub room : raw ≤ out
  pub space : raw ≤ scratch
