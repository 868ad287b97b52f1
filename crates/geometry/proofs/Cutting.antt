-- How a picture is cut into segments: what the code computes of it, and that each output byte has one place of its own in a segment.
use Prim.Native.Nat.{ℕ, ◌+◌, ◌-◌, ◌*◌, ◌/◌, ◌%◌, ◌<◌, ◌≤◌}
use mathlib.Core.Path.{◌≡◌, sym, ap, ◌∙◌}
use mathlib.Core.Bool.{Bool, true, false}
use native.Mathlib.Omega.{arith}
use native.Mathlib.Nat.{mul_comm, mul-le-mul_right, div-le_self, div-mul-le_self, div-add-mod', div-lt_iff_lt-mul, le-div_iff_mul-le, mod-lt}
use lib.Arith.{digits_div, digits_mod}
use mir.Syntax.{w64}
use mir.Val.{Fits}
use borrow.Author.Rules.{rules}
use borrow.Author.Tests.{lt-ltb, le-ltb}
use Rattle.lists.specs.Lists.{pick, lesser}
use Rattle.lists.proofs.Counters.{grouped_in}
use Rattle.lists.proofs.Lesser.{lesser_min}
use Rattle.geometry.specs.Geometry.{pieces, rows_of, byte_segment, byte_local}
use Rattle.geometry.specs.Inner.{Cut}

-- blocks along a side, and their number as a word
module _ (side block : ℕ) (some : 0 < side) where
  pub pieces_le : pieces side block ≤ side
  pieces_le = omega (arith, div-le_self (side - 1) block)

  pub pieces_fits : Fits w64 side → Fits w64 (pieces side block)
  pieces_fits f = record { fits = omega (arith, pieces_le, f.fits) }

-- rows of a segment, test by test
module _ (tiled : Bool) (height bh across segment : ℕ) where
  pub rows_tiled : tiled ≡ true → bh ≡ rows_of tiled height bh across segment
  unfolding rows_of
  rows_tiled t = rw t

  module _ (t : tiled ≡ false) (below : ℕ) (e : below ≡ height - segment / across * bh) where
    pub rows_short : below < bh → below ≡ rows_of tiled height bh across segment
    unfolding rows_of
    rows_short h = simp (t, ← e, lt-ltb _ _ h)

    pub rows_full : bh ≤ below → bh ≡ rows_of tiled height bh across segment
    unfolding rows_of
    rows_full h = simp (t, ← e, le-ltb _ _ h)

pub ruleset cutting = (pieces_le, pieces_fits, rows_tiled, rows_short, rows_full, rules)

module _ (tiled : Bool) (height bh across segment : ℕ) where
  -- a row below the block's height and inside the picture is a row of its segment
  pub below_rows : (n : ℕ) → n < bh → segment / across * bh + n < height → n < rows_of tiled height bh across segment
  unfolding rows_of
  below_rows n x y = by tiled
    where
      by : (t : Bool) → n < pick t bh (lesser (height - segment / across * bh) bh)
      by true = x
      by false = omega (arith, lesser_min (height - segment / across * bh) bh)

  -- no segment has more rows than a block
  pub rows_le : rows_of tiled height bh across segment ≤ bh
  unfolding rows_of
  rows_le = by tiled
    where
      by : (t : Bool) → pick t bh (lesser (height - segment / across * bh) bh) ≤ bh
      by true = omega arith
      by false = omega (arith, lesser_min (height - segment / across * bh) bh)

  -- each segment of a picture has a row
  pub rows_some : 0 < bh → Cut height bh across segment → 0 < rows_of tiled height bh across segment
  rows_some x c = below_rows 0 x (omega (arith, c.begins_inside))

-- a place along a side lies in one of its blocks
pub piece_below : (side block n : ℕ) → 0 < block → n < side → n / block < pieces side block
piece_below side block n some h =
    let l : n / block * block ≤ side - 1 = omega (arith, div-mul-le_self n block) in
    let m : n / block ≤ (side - 1) / block = (le-div_iff_mul-le {k = block} {x = n / block} {y = side - 1} some).1 l in
    omega arith

-- and each block begins on the side
pub piece_begins : (side block p : ℕ) → 0 < side → p < pieces side block → p * block < side
piece_begins side block p some h =
    let l : p ≤ (side - 1) / block = omega arith in
    omega (arith, mul-le-mul_right {m = p} {n = (side - 1) / block} block l, div-mul-le_self (side - 1) block)

-- each of the segments across and down is one of the picture
pub cut_of : (height bh across segment : ℕ) → 0 < height → 0 < across → segment < across * pieces height bh → Cut height bh across segment
cut_of height bh across segment tall wide h =
    let l : segment < pieces height bh * across = omega (arith, mul_comm across (pieces height bh)) in
    let d : segment / across < pieces height bh = (div-lt_iff_lt-mul {k = across} {x = segment} {y = pieces height bh} wide).1 l in
    record { some_across = wide; begins_inside = piece_begins height bh (segment / across) tall d }

module _ (size w bw bh across k : ℕ) (some-w : 0 < w) (some-bw : 0 < bw) (cut : across ≡ pieces w bw) where
  column_in : k / size % w / bw < across
  column_in = rw cut (piece_below w bw (k / size % w) some-bw (mod-lt (k / size) some-w))

  -- the segment's row of blocks is the pixel's y by the block's height
  pub segment_row : byte_segment size w bw bh across k / across ≡ k / size / w / bh
  unfolding byte_segment
  segment_row = digits_div (k / size / w / bh) column_in

  -- and its place in that row the pixel's x by the block's width
  pub segment_column : byte_segment size w bw bh across k % across ≡ k / size % w / bw
  unfolding byte_segment
  segment_column = digits_mod (k / size / w / bh) column_in

module _
    (size w h bw bh across k : ℕ)
    (some_size : 0 < size)
    (some-w : 0 < w)
    (some-bw : 0 < bw)
    (some-bh : 0 < bh)
    (cut : across ≡ pieces w bw)
    (within : k < size * (w * h)) where
  row_in : k / size / w < h
  row_in =
      let a : k < w * h * size = omega (arith, mul_comm size (w * h)) in
      let b : k / size < w * h = (div-lt_iff_lt-mul {k = size} {x = k} {y = w * h} some_size).1 a in
      let d : k / size < h * w = omega (arith, mul_comm w h) in
      (div-lt_iff_lt-mul {k = w} {x = k / size} {y = h} some-w).1 d

  -- each output byte lies in a segment of the picture
  pub segment_in : byte_segment size w bw bh across k < across * pieces h bh
  unfolding byte_segment
  segment_in =
      grouped_in (pieces h bh) across (k / size / w / bh) (k / size % w / bw)
      (piece_below h bh (k / size / w) some-bh row_in)
      (column_in size w bw bh across k some-w some-bw cut)

  -- and at a place among that segment's own bytes
  pub local_in : (tiled : Bool) → byte_local size w bw bh k < size * (bw * rows_of tiled h bh across (byte_segment size w bw bh across k))
  unfolding byte_local
  local_in tiled =
      let s = byte_segment size w bw bh across k in
      let y = k / size / w in
      let b : s / across * bh + y % bh < h = rw (segment_row size w bw bh across k some-w some-bw cut) (omega (arith, div-add-mod' y bh, row_in)) in
      let r = below_rows tiled h bh across s (y % bh) (mod-lt y some-bh) b in
      let p = grouped_in (rows_of tiled h bh across s) bw (y % bh) (k / size % w % bw) r (mod-lt (k / size % w) some-bw) in
      grouped_in (bw * rows_of tiled h bh across s) size (y % bh * bw + k / size % w % bw) (k % size) p (mod-lt k some_size)

-- the output byte that has a place in a segment
unfoldable pub byte_of : ℕ → ℕ → ℕ → ℕ → ℕ → ℕ → ℕ → ℕ
byte_of size w bw bh across segment local =
    ((segment / across * bh + local / size / bw) * w + (segment % across * bw + local / size % bw)) * size + local % size

module _ (size w bw bh across : ℕ) (some_size : 0 < size) (some-w : 0 < w) (some-bw : 0 < bw) (cut : across ≡ pieces w bw) where
  -- a place in a segment, taken apart: the byte of its pixel, and the pixel's column and row there
  module _ (k : ℕ) where
    local_byte : byte_local size w bw bh k % size ≡ k % size
    unfolding byte_local
    local_byte = digits_mod (k / size / w % bh * bw + k / size % w % bw) (mod-lt k some_size)

    local_pixel : byte_local size w bw bh k / size ≡ k / size / w % bh * bw + k / size % w % bw
    unfolding byte_local
    local_pixel = digits_div (k / size / w % bh * bw + k / size % w % bw) (mod-lt k some_size)

    local_column : byte_local size w bw bh k / size % bw ≡ k / size % w % bw
    local_column = rw local_pixel (digits_mod (k / size / w % bh) (mod-lt (k / size % w) some-bw))

    local_row : byte_local size w bw bh k / size / bw ≡ k / size / w % bh
    local_row = rw local_pixel (digits_div (k / size / w % bh) (mod-lt (k / size % w) some-bw))

    -- segment and place give the byte back
    pub byte_back : byte_of size w bw bh across (byte_segment size w bw bh across k) (byte_local size w bw bh k) ≡ k
    unfolding byte_of
    byte_back =
        rw (
          local_byte,
          local_column,
          local_row,
          segment_row size w bw bh across k some-w some-bw cut,
          segment_column size w bw bh across k some-w some-bw cut,
          div-add-mod' (k / size / w) bh,
          div-add-mod' (k / size % w) bw,
          div-add-mod' (k / size) w,
        )
        (div-add-mod' k size)

  -- two output bytes at one place of one segment are the same byte
  pub same_place : (j k : ℕ) → byte_segment size w bw bh across j ≡ byte_segment size w bw bh across k
      → byte_local size w bw bh j ≡ byte_local size w bw bh k → j ≡ k
  same_place j k s l =
      sym (byte_back j)
      ∙ ap (λ (x : ℕ). byte_of size w bw bh across x (byte_local size w bw bh j)) s
      ∙ ap (byte_of size w bw bh across (byte_segment size w bw bh across k)) l
      ∙ byte_back k
