-- Where a segment's visible part lies: inside the picture, so that its rows can be put there.
use Prim.Native.Nat.{ℕ, ◌+◌, ◌-◌, ◌*◌, ◌%◌, ◌<◌, ◌≤◌, min}
use mathlib.Core.Path.{◌≡◌, refl}
use native.Mathlib.Omega.{arith}
use native.Mathlib.Nat.{le-mul_of_pos_right, mul-le-mul_left, mod-lt}
use borrow.Author.Rules.{rules}
use mir.Syntax.{w64}
use mir.Val.{Fits}
use Rattle.lists.specs.Lists.{lesser}
use Rattle.head.specs.Heads.{bytes_of}
use Rattle.head.proofs.Heads.{bytes_some}
use Rattle.lists.proofs.Lesser.{lesser_first, lesser_second, lesser_min}
use Rattle.lists.proofs.Rows.{row_fits}
use Rattle.geometry.proofs.Cutting.{piece_begins}
use Rattle.picture.specs.declared.Format.{Format}
use Rattle.picture.specs.Inner.{Valid, left_of, top_of, visible_of}
use Rattle.picture.proofs.Sizes.{segment_cut}

-- the visible part of segment k
module _ (f : Format) (k : ℕ) where
  pub columns_are : (visible_of f k).columns ≡ min (f.width - left_of f k) f.block_width
  unfolding visible_of
  columns_are = lesser_min _ _

  pub rows_are : (visible_of f k).rows ≡ min (f.height - top_of f k) f.block_height
  unfolding visible_of
  rows_are = lesser_min _ _

  pub first_is : (visible_of f k).first ≡ bytes_of f.mono * (top_of f k * f.width + left_of f k)
  unfolding visible_of
  first_is = refl

  pub visible_is : (columns rows b : ℕ) → columns ≡ lesser (f.width - left_of f k) f.block_width
      → rows ≡ lesser (f.height - top_of f k) f.block_height → b ≡ bytes_of f.mono
      → record { columns = columns; rows = rows; first = b * (top_of f k * f.width + left_of f k) } ≡ visible_of f k
  unfolding visible_of
  visible_is columns rows b c r e = rw (c, r, e)

module _ (f : Format) (k : ℕ) (valid : Valid f) where
  some_across : 0 < f.across
  some_across = omega (arith, valid.across_is)

  -- a segment begins inside the picture
  pub start_inside : left_of f k < f.width
  start_inside = piece_begins f.width f.block_width (k % f.across) valid.some_width (omega (arith, valid.across_is, mod-lt k some_across))

  -- each row that it shows lies in the output
  pub visible_inside : (r : ℕ) → r < (visible_of f k).rows
      → (visible_of f k).first + r * (bytes_of f.mono * f.width) + bytes_of f.mono * (visible_of f k).columns ≤ f.output
  visible_inside r h =
      let y = top_of f k + r in
      let tall : y < f.height = omega (arith, rows_are f k) in
      let inside : y * f.width + (left_of f k + (visible_of f k).columns) ≤ f.width * f.height =
      omega (arith, start_inside, columns_are f k, row_fits y f.height f.width tall) in
      omega (arith, first_is f k, valid.output_is, mul-le-mul_left (bytes_of f.mono) inside)

  pub pitch_inside : bytes_of f.mono * f.width ≤ f.output
  pitch_inside = omega (arith, valid.output_is, mul-le-mul_left (bytes_of f.mono) (le-mul_of_pos_right f.width valid.some_height))

  pub start_fits : Fits w64 f.width → Fits w64 (left_of f k)
  start_fits h = record { fits = omega (arith, h.fits, start_inside) }

  pub pitch_fits : (b : ℕ) → b ≡ bytes_of f.mono → Fits w64 f.output → Fits w64 (b * f.width)
  pitch_fits b e h = rw e (record { fits = omega (arith, h.fits, pitch_inside) })

  module _ (within : k < f.segments) where
    pub top_inside : top_of f k < f.height
    top_inside = (segment_cut f k valid within).begins_inside

    begins_inside : (visible_of f k).first ≤ f.output
    begins_inside = omega (arith, visible_inside 0 (omega (arith, rows_are f k, top_inside, valid.some_block_height)))

    pub top_fits : Fits w64 f.height → Fits w64 (top_of f k)
    top_fits h = record { fits = omega (arith, h.fits, top_inside) }

    -- the pixels above it, those before it, and their bytes
    module _ (h : Fits w64 f.output) where
      before_inside : top_of f k * f.width + left_of f k ≤ f.output
      before_inside =
          omega (arith, first_is f k, begins_inside, le-mul_of_pos_right (top_of f k * f.width + left_of f k) (bytes_some f.mono))

      pub above_fits : Fits w64 (top_of f k * f.width)
      above_fits = record { fits = omega (arith, h.fits, before_inside) }

      pub before_fits : Fits w64 (top_of f k * f.width + left_of f k)
      before_fits = record { fits = omega (arith, h.fits, before_inside) }

      pub first_fits : (b : ℕ) → b ≡ bytes_of f.mono → Fits w64 (b * (top_of f k * f.width + left_of f k))
      first_fits b e = rw e (record { fits = omega (arith, h.fits, first_is f k, begins_inside) })

pub ruleset places = (lesser_first, lesser_second, visible_is, start_inside, top_inside, start_fits, top_fits, above_fits, before_fits, first_fits, rules)
