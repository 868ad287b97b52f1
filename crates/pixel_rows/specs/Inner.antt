-- What only the code's own functions ask for and promise each other: planes for a row or a part of one, and just the room of its pixels.
use Rattle.std.specs.Prelude.{ℕ, ◌+◌, ◌*◌, ◌/◌, ◌%◌, ◌<◌, ◌≤◌, ◌≡◌, List, get_or}
use Rattle.lists.specs.Lists.{joined, overlay}
use Rattle.head.specs.Heads.{Head, colour_head, planes_of, bytes_of}
use Rattle.pixel.specs.Luv.{pixel, pixel_at}

-- planes of w bytes each, and a buffer for just n pixels
pub record Convertible (head : Head) (w n planes out : ℕ) : Type 0 where
  pub planes_in : planes_of head * w ≤ planes
  pub columns : n ≤ w
  pub exact : out ≡ bytes_of head * n

-- the same of n pixels of the colour head from the i-th on
pub record Within (w i n planes out : ℕ) : Type 0 where
  pub planes_in : 4 * w ≤ planes
  pub columns : i + n ≤ w
  pub exact : out ≡ 6 * n

-- so many pixels are a block
pub record Block (n : ℕ) : Type 0 where
  pub by_four : n % 4 ≡ 0
  pub small : n ≤ 64

-- as many low bytes of L as high ones, and room for as many numbers
pub record Matched (highs lows lights : ℕ) : Type 0 where
  pub low : lows ≡ highs
  pub room : highs ≤ lights

-- the first n numbers are L of a pixel each, by its two bytes
pub record Lights (highs lows lights : List ℕ) (n : ℕ) : Type 0 where
  pub high : (k : ℕ) → k < n → get_or lights k 0 / 256 ≡ get_or highs k 0
  pub low : (k : ℕ) → k < n → get_or lights k 0 % 256 ≡ get_or lows k 0

-- L, u and v of a multiple of four pixels
pub record Fours (lights us vs out : ℕ) : Type 0 where
  pub by_four : us % 4 ≡ 0
  pub light : us ≤ lights
  pub v : vs ≡ us
  pub exact : out ≡ 6 * us

-- a block by its part of each plane
pub record Apart (highs lows us vs out : ℕ) : Type 0 where
  pub block : Block us
  pub high : highs ≡ us
  pub low : lows ≡ us
  pub v : vs ≡ us
  pub exact : out ≡ 6 * us

-- pixel k of it
unfoldable pub plane_pixel : List ℕ → List ℕ → List ℕ → List ℕ → ℕ → List ℕ
plane_pixel highs lows us vs k = pixel (get_or highs k 0) (get_or lows k 0) (get_or us k 0) (get_or vs k 0)

-- the first m of n pixels from the i-th on are made, and the rest of the buffer is as it was
pub record Front (w i n : ℕ) (row old out : List ℕ) (m : ℕ) : Type 0 where
  pub upto : m ≤ n
  pub made : out ≡ overlay (joined (pixel_at colour_head w row) i m) old
