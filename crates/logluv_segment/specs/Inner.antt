-- What only the code's own functions ask for: bytes of a file that are to be those of a segment.
use Rattle.std.specs.Prelude.{ℕ, ◌+◌, ◌<◌, ◌≤◌, List, length}
use Rattle.picture.specs.declared.Format.{Format}
use Rattle.picture.specs.Inner.{Valid}

-- count bytes from offset on lie in the file, and k is a segment of a format that the profile gives
pub record InFile (file : List ℕ) (f : Format) (k offset count : ℕ) : Type 0 where
  pub valid : Valid f
  pub of_picture : k < f.segments
  pub range_inside : offset + count ≤ length file
