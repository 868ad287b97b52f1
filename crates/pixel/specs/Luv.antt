-- Pixels: a row of the planes of a head (L high, L low and, for colour, u, v), and its pixels.
use Rattle.std.specs.Prelude.{ℕ, ◌+◌, ◌*◌, ◌/◌, ◌%◌, true, false, List, [], ◌∷◌, take, drop, get_or}
use Rattle.lists.specs.Lists.{joined, per_row}
use Rattle.head.specs.Heads.{Head, planes_of}

-- floor((2x+1)·8192/205) (rule 6.3)
unfoldable pub uv : ℕ → ℕ
uv x = (2 * x + 1) * 8192 / 205

-- L as 16-bit little-endian, copied (rule 6.2)
abbrev pub mono_pixel : ℕ → ℕ → List ℕ
mono_pixel high low = low ∷ high ∷ []

-- and then u and v in the same way
unfoldable pub pixel : ℕ → ℕ → ℕ → ℕ → List ℕ
pixel high low u v = low ∷ high ∷ uv u % 256 ∷ uv u / 256 ∷ uv v % 256 ∷ uv v / 256 ∷ []

-- a pixel by the byte that each of its planes has (rules 6.1 and 6.2)
abbrev pub pixel_of : Head → (ℕ → ℕ) → List ℕ
pixel_of false plane = pixel (plane 0) (plane 1) (plane 2) (plane 3)
pixel_of true plane = mono_pixel (plane 0) (plane 1)

module _ (head : Head) where
  -- the i-th pixel of a row of planes of w bytes each
  unfoldable pub pixel_at : ℕ → List ℕ → ℕ → List ℕ
  pixel_at w row i = pixel_of head (λ plane. get_or row (plane * w + i) 0)

  -- its first n pixels
  unfoldable pub row_pixels : ℕ → ℕ → List ℕ → List ℕ
  row_pixels w n row = joined (pixel_at w row) 0 n

  -- the same of row r of planes
  abbrev pub row_shown : ℕ → ℕ → List ℕ → ℕ → List ℕ
  row_shown w n planes r = row_pixels w n (take (planes_of head * w) (drop (r * (planes_of head * w)) planes))

  -- all pixels of so many rows
  unfoldable pub pixels : ℕ → ℕ → List ℕ → List ℕ
  pixels w rows planes = per_row (row_pixels w w) (planes_of head * w) rows planes
