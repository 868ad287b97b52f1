-- The file of a grey picture: a header in text, and a byte for each pixel.
use Rattle.std.specs.Prelude.{ℕ, zero, suc, ◌+◌, ◌-◌, ◌/◌, ◌%◌, List, [], ◌∷◌, ◌++◌, length, ltb}
use Rattle.lists.specs.Lists.{pick, tabulate}
use Rattle.summary.specs.Grey.{grey_at, pixels_in}

-- the decimal digits of a number, as few as hold it, and no more than so many
unfoldable pub decimal_in : ℕ → ℕ → List ℕ
decimal_in zero n = []
decimal_in (suc most) n = pick (ltb n 10) [] (decimal_in most (n / 10)) ++ ((48 + n % 10) ∷ [])

-- twenty hold every number of 64 bits
abbrev pub decimal_of : ℕ → List ℕ
decimal_of n = decimal_in 20 n

-- 'P5' and a line's end, the width, a space, the height, a line's end, '255' for white and a line's end
unfoldable pub header_of : ℕ → ℕ → List ℕ
header_of width height =
    (80 ∷ 53 ∷ 10 ∷ []) ++ decimal_of width ++ (32 ∷ []) ++ decimal_of height ++ (10 ∷ 50 ∷ 53 ∷ 53 ∷ 10 ∷ [])

-- the grey values of a picture's pixels, of `size` bytes each, as far as so much room goes
abbrev pub greys_in : ℕ → ℕ → ℕ → List ℕ → ℕ → List ℕ
greys_in size width height picture room = tabulate (pixels_in size width height (length picture) room) (grey_at size picture)

-- header and grey values, in so much room
abbrev pub pgm_of : ℕ → ℕ → ℕ → List ℕ → ℕ → List ℕ
pgm_of size width height picture room = header_of width height ++ greys_in size width height picture (room - length (header_of width height))

-- no bytes where there is no room for a header of the largest sides, which has 49
unfoldable pub pgm_in : ℕ → ℕ → ℕ → List ℕ → ℕ → List ℕ
pgm_in size width height picture room = pick (ltb room 49) [] (pgm_of size width height picture room)
