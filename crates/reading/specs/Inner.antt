-- What only the code's own functions ask for and leave: a segment to read with its buffers, and what is written into scratch.
use Rattle.std.specs.Prelude.{ℕ, ◌<◌, ◌≤◌, List}
use Rattle.seen.specs.Seen.{Seen}
use Rattle.picture.specs.declared.Format.{Format}
use Rattle.picture.specs.Picture.{needed_of}
use Rattle.picture.specs.Inner.{Readable}
use Rattle.logluv_segment.specs.Segment.{stored}
use Rattle.showing.specs.Shown.{planes_in}
use Rattle.quality.specs.Quality.{where_good, quality_is}

-- a segment of a format that can be read, and room for its planes and for the picture
pub record SegmentReadable (v : Seen) (f : Format) (k scratch output : ℕ) : Type 0 where
  pub readable : Readable v f
  pub of_picture : k < f.segments
  pub planes_in : needed_of f k ≤ scratch
  pub picture_in : f.output ≤ output

-- the planes of a good segment; any other leaves scratch as it is
abbrev pub planes_read : Seen → Format → ℕ → List ℕ
planes_read v f k = where_good (quality_is v f k) (planes_in (stored v f k))
