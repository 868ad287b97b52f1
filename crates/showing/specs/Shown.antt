-- What a segment shows.
use Rattle.std.specs.Prelude.{ℕ, List}
use Rattle.seen.specs.Seen.{Seen}
use Rattle.packets.specs.Packets.{expand}
use Rattle.picture.specs.declared.Format.{Format}
use Rattle.paint.specs.Paint.{pixels_of}
use Rattle.logluv_segment.specs.Segment.{stored}

-- the planes that the packets of these bytes stand for, and their pixels in segment k, those of the padding included
abbrev pub planes_in : List ℕ → List ℕ
planes_in bytes = expand bytes 0

abbrev pub shown_by : Format → ℕ → List ℕ → List ℕ
shown_by f k bytes = pixels_of f k (planes_in bytes)

-- the same of its stored bytes
unfoldable pub shown : Seen → Format → ℕ → List ℕ
shown v f k = shown_by f k (stored v f k)
