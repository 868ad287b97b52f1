-- What only the code's own functions ask for: an entry, and the bytes of one of its values, that are there.
use Rattle.std.specs.Prelude.{ℕ, Bool}
use Rattle.seen.specs.Seen.{Seen, There}
use Rattle.entries.specs.Values.{size_of}

pub record WordThere (v : Seen) (big : Bool) (e p : ℕ) : Type 0 where
  pub entry : There v e 12
  pub word : There v p (size_of v big e)
