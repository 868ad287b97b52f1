-- What only the code's own functions ask for: a segment whose rows are counted is one of the picture.
use Rattle.std.specs.Prelude.{ℕ, ◌*◌, ◌/◌, ◌<◌}

pub record Cut (height bh across segment : ℕ) : Type 0 where
  pub some_across : 0 < across
  pub begins_inside : segment / across * bh < height
