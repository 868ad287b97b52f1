-- The PNG file of a picture of `size` bytes a pixel, made of its pixels' colours.
use Rattle.std.specs.Prelude.{ℕ, List, [], eqb, length}
use Rattle.lists.specs.Lists.{pick, tabulate}
use Rattle.colours.specs.Colours.{colour_at, colours_in}
use Rattle.png.specs.Png.{png_of, png_size}

-- the colours made in so much room, and of them the file, which takes the place of the picture; no bytes where it has no room there
unfoldable pub png_file_of : ℕ → ℕ → ℕ → ℕ → ℕ → List ℕ → List ℕ → ℕ → List ℕ
png_file_of size width height bw bh picture quality room =
    pick (eqb (png_size width height (colours_in size width height bw bh (length picture) room) (length picture)) 0) []
    (png_of width height (tabulate (colours_in size width height bw bh (length picture) room) (colour_at size picture quality width bw bh)))
