-- How a picture is cut into segments, and where each byte of the output lies in them.
use Rattle.std.specs.Prelude.{ℕ, ◌+◌, ◌-◌, ◌*◌, ◌/◌, ◌%◌, Bool}
use Rattle.lists.specs.Lists.{pick, lesser}

-- the greatest side of a block (rule 3.5)
abbrev pub most_side : ℕ
most_side = 16384

-- and so the greatest area
abbrev pub most_area : ℕ
most_area = most_side * most_side

-- blocks along a side (rule 3.7)
abbrev pub pieces : ℕ → ℕ → ℕ
pieces side block = (side - 1) / block + 1

-- rows of a segment: tiles are always of full height, the last strip may be short (rule 4.1)
unfoldable pub rows_of : Bool → ℕ → ℕ → ℕ → ℕ → ℕ
rows_of tiled height bh across segment = pick tiled bh (lesser (height - segment / across * bh) bh)

-- pixel (x, y): its segment, and where its byte c lies there, at so many bytes a pixel (rule 6.5)
abbrev pub segment_of : ℕ → ℕ → ℕ → ℕ → ℕ → ℕ
segment_of bw bh across x y = y / bh * across + x / bw

abbrev pub local_of : ℕ → ℕ → ℕ → ℕ → ℕ → ℕ → ℕ
local_of size bw bh x y c = (y % bh * bw + x % bw) * size + c

-- byte k of an output of rows of w pixels: its segment, and its place there (rule 6.5)
module _ (size w bw bh : ℕ) where
  unfoldable pub byte_segment : ℕ → ℕ → ℕ
  byte_segment across k = segment_of bw bh across (k / size % w) (k / size / w)

  unfoldable pub byte_local : ℕ → ℕ
  byte_local k = local_of size bw bh (k / size % w) (k / size / w) (k % size)
