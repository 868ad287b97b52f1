-- What a patchy reading leaves of all segments: their quality bytes, and the picture.
use Rattle.std.specs.Prelude.{ℕ, List}
use Rattle.lists.specs.Lists.{tabulate, overlay}
use Rattle.seen.specs.Seen.{Seen}
use Rattle.picture.specs.declared.Format.{Format}
use Rattle.picture.specs.Picture.{picture_of}
use Rattle.quality.specs.Quality.{code_of, shows_of}

module _ (v : Seen) (f : Format) where
  -- the quality byte of each segment (rule 8.7)
  abbrev pub codes_of : List ℕ
  codes_of = tabulate f.segments (code_of v f)

  -- the picture, in which a segment that is not good is zero; what stood after it stays (rules 8.7 and 8.8)
  abbrev pub shown_over : List ℕ → List ℕ
  shown_over old = overlay (picture_of f (shows_of v f)) old
