-- The number of each pixel's colour in a palette of 253 greys, red, blue and yellow: a grey where its segment is good, and a colour where it
-- is not, so that what did not come is never taken for something dark.
use Rattle.std.specs.Prelude.{ℕ, ◌-◌, ◌*◌, ◌/◌, ◌%◌, List, get_or, ltb, eqb}
use Rattle.lists.specs.Lists.{pick, lesser}
use Rattle.geometry.specs.Geometry.{pieces, segment_of}
use Rattle.summary.specs.Grey.{light_at, whole_pixels}

-- Eight greys for each doubling of light, so that a scene's few doublings can be told apart: 128 is L 16384, which is light 1; black is 16
-- doublings darker, and a negative L
unfoldable pub tone_of : ℕ → ℕ
tone_of l = pick (ltb l 32768) ((l - 12288) / 32) 0

-- what is brighter than the brightest grey is shown by it; 254 is outside the file, 255 packets not accepted, and all else is taken for what did not come
unfoldable pub colour_of : ℕ → ℕ → ℕ
colour_of code tone = pick (eqb code 1) (lesser tone 252) (pick (eqb code 3) 254 (pick (eqb code 4) 255 253))

-- the segment of pixel p of rows of so many
unfoldable pub pixel_segment : ℕ → ℕ → ℕ → ℕ → ℕ
pixel_segment width bw bh p = segment_of bw bh (pieces width bw) (p % width) (p / width)

-- the colour of pixel p of a picture of `size` bytes a pixel
unfoldable pub colour_at : ℕ → List ℕ → List ℕ → ℕ → ℕ → ℕ → ℕ → ℕ
colour_at size picture quality width bw bh p = colour_of (get_or quality (pixel_segment width bw bh p) 0) (tone_of (light_at size picture p))

-- how many pixels are coloured: all, or none where a side is 0 or where they are more than can be
unfoldable pub coloured_in : ℕ → ℕ → ℕ → ℕ → ℕ → ℕ
coloured_in width height bw bh most =
    pick (eqb width 0) 0 (pick (eqb bw 0) 0 (pick (eqb bh 0) 0 (pick (ltb most (width * height)) 0 (width * height))))

-- the same of a picture of so many bytes and of so much room
abbrev pub colours_in : ℕ → ℕ → ℕ → ℕ → ℕ → ℕ → ℕ → ℕ
colours_in size width height bw bh bytes room = coloured_in width height bw bh (lesser (whole_pixels size bytes) room)
