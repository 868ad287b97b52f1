-- What only the code's own functions ask for: bytes of a file whose packets fill a segment.
use Rattle.std.specs.Prelude.{ℕ, List}
use Rattle.checks.specs.Checks.{Holds}
use Rattle.packets.specs.Packets.{part}
use Rattle.picture.specs.declared.Format.{Format}
use Rattle.logluv_segment.specs.Segment.{fill_checks}
use Rattle.logluv_segment.specs.Inner.{InFile}

pub record SegmentShowable (file : List ℕ) (f : Format) (k offset count : ℕ) : Type 0 where
  pub in_file : InFile file f k offset count
  pub packets : Holds (fill_checks f k (part file offset count))
