-- The pixels of a segment.
use Rattle.std.specs.Prelude.{ℕ, List}
use Rattle.picture.specs.declared.Format.{Format}
use Rattle.picture.specs.Picture.{rows_in}
use Rattle.pixel.specs.Luv.{pixels}

-- what the planes of segment k stand for, the pixels of the padding included
abbrev pub pixels_of : Format → ℕ → List ℕ → List ℕ
pixels_of f k planes = pixels f.mono f.block_width (rows_in f k) planes
