-- What a format says of its segments, and what stands where in a picture of such segments.
use Rattle.std.specs.Prelude.{ℕ, ◌*◌, ◌&&◌, List, length, get_or, ltb, eqb}
use Rattle.lists.specs.Lists.{pick, tabulate}
use Rattle.head.specs.Heads.{bytes_of}
use Rattle.geometry.specs.Geometry.{rows_of, byte_segment, byte_local}
use Rattle.geometry.specs.Costs.{needed_for, scratch_for}
use Rattle.picture.specs.declared.Format.{Format}

module _ (f : Format) (k : ℕ) where
  -- tiles are always of full height, the last strip may be short (rule 4.1)
  abbrev pub rows_in : ℕ
  rows_in = rows_of f.tiled f.height f.block_height f.across k

  -- A: block width × rows (rule 4.1)
  abbrev pub area_of : ℕ
  area_of = f.block_width * rows_in

  -- the bytes that its packets must fill (rule 4.4)
  abbrev pub needed_of : ℕ
  needed_of = needed_for f.mono area_of

-- the largest (p + b)A, which is that of a whole block (rule 7.3)
abbrev pub scratch_of : Format → ℕ
scratch_of f = scratch_for f.mono (f.block_width * f.block_height)

module _ (f : Format) where
  -- the segment of an output byte, and its place among that segment's bytes (rule 6.5)
  abbrev pub segment_at : ℕ → ℕ
  segment_at q = byte_segment (bytes_of f.mono) f.width f.block_width f.block_height f.across q

  abbrev pub local_at : ℕ → ℕ
  local_at q = byte_local (bytes_of f.mono) f.width f.block_width f.block_height q

  -- a picture that shows these bytes in each segment (rule 6.5)
  unfoldable pub picture_of : (ℕ → List ℕ) → List ℕ
  picture_of new = tabulate f.output (λ q. get_or (new (segment_at q)) (local_at q) 0)

  -- segment k of an output buffer shows these bytes, all else stays: tile padding goes nowhere (rule 6.6)
  unfoldable pub painted : ℕ → List ℕ → List ℕ → List ℕ
  painted k new old = tabulate (length old) (λ q. pick (ltb q f.output && eqb (segment_at q) k) (get_or new (local_at q) 0) (get_or old q 0))
