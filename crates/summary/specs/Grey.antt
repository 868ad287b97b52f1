-- The L plane as grey values, one byte a pixel, of a picture whose pixels have `size` bytes each.
use Rattle.std.specs.Prelude.{ℕ, ◌+◌, ◌*◌, ◌/◌, List, get_or, ltb}
use Rattle.lists.specs.Lists.{pick, lesser}

-- L is signed, of 16 bits: a negative one is black, and the others have seven bits more than a grey value
unfoldable pub grey_of : ℕ → ℕ
grey_of l = pick (ltb l 32768) (l / 128) 0

-- L of pixel k of a picture: the first two of its bytes, the lower one first
unfoldable pub light_at : ℕ → List ℕ → ℕ → ℕ
light_at size picture k = get_or picture (size * k) 0 + 256 * get_or picture (size * k + 1) 0

abbrev pub grey_at : ℕ → List ℕ → ℕ → ℕ
grey_at size picture k = grey_of (light_at size picture k)

-- how many whole pixels so many bytes are: none where a pixel lacks the two bytes of L
unfoldable pub whole_pixels : ℕ → ℕ → ℕ
whole_pixels size bytes = pick (ltb size 2) 0 (bytes / size)

-- how many pixels are shown: all, as far as the picture's bytes and the room go
abbrev pub pixels_in : ℕ → ℕ → ℕ → ℕ → ℕ → ℕ
pixels_in size width height bytes room = lesser (width * height) (lesser (whole_pixels size bytes) room)
