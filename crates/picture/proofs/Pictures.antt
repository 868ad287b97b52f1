-- What stands where in a picture: each byte by its segment.
use Prim.Native.Nat.{ℕ, ◌+◌, ◌*◌, ◌<◌}
use mathlib.Core.Path.{◌≡◌, sym, ◌∙◌}
use mathlib.Core.List.{List}
use native.Mathlib.Omega.{arith}
use lib.Arith.{digits_div, digits_mod}
use lib.ListN.{length, get_or}
use lib.Seq.{ext_get_or}
use Rattle.lists.proofs.Overlay.{length_span, get_d_tabulate}
use Rattle.lists.proofs.Rows.{row_fits}
use Rattle.lists.proofs.Counters.{grouped_in}
use Rattle.head.specs.Heads.{bytes_of}
use Rattle.head.proofs.Heads.{bytes_some}
use Rattle.geometry.specs.Geometry.{segment_of, local_of, byte_segment, byte_local}
use Rattle.geometry.proofs.Cutting.{segment_in}
use Rattle.picture.specs.declared.Format.{Format}
use Rattle.picture.specs.Picture.{segment_at, local_at, picture_of}
use Rattle.picture.specs.Inner.{Valid}

module _ (f : Format) where
  pub picture_length : (new : ℕ → List ℕ) → length (picture_of f new) ≡ f.output
  unfolding picture_of
  picture_length new = length_span _ 0 f.output

  pub picture_at : (new : ℕ → List ℕ) (q : ℕ) → q < f.output → get_or (picture_of f new) q 0 ≡ get_or (new (segment_at f q)) (local_at f q) 0
  unfolding picture_of
  picture_at new q h = get_d_tabulate (λ p. get_or (new (segment_at f p)) (local_at f p) 0) f.output q h

  -- each byte of the picture is of one of its segments
  pub output_segment : Valid f → (q : ℕ) → q < f.output → segment_at f q < f.segments
  output_segment valid q h =
      let b = segment_in (bytes_of f.mono) f.width f.height f.block_width f.block_height f.across q (bytes_some f.mono)
      valid.some_width valid.some_block_width valid.some_block_height valid.across_is (omega (arith, valid.output_is)) in
      omega (arith, b, valid.segments_are)

-- two pictures are one where each segment shows the same
pub same_picture : (f : Format) (a b : ℕ → List ℕ) → Valid f → ((k : ℕ) → k < f.segments → a k ≡ b k) → picture_of f a ≡ picture_of f b
same_picture f a b valid same =
    ext_get_or 0 (picture_of f a) (picture_of f b) (picture_length f a ∙ sym (picture_length f b)) (λ q l. by q (omega (arith, picture_length f a)))
  where
    by : (q : ℕ) → q < f.output → get_or (picture_of f a) q 0 ≡ get_or (picture_of f b) q 0
    by q h = picture_at f a q h ∙ rw (same (segment_at f q) (output_segment f valid q h)) (sym (picture_at f b q h))

-- byte c of the pixel in column x of row y: its segment, its place there, and that it is in the output
module _ (f : Format) (x y c : ℕ) (column : x < f.width) (byte : c < bytes_of f.mono) where
  pub pixel_segment_lem : segment_at f ((y * f.width + x) * bytes_of f.mono + c) ≡ segment_of f.block_width f.block_height f.across x y
  unfolding byte_segment
  pixel_segment_lem = rw (digits_div (y * f.width + x) byte, digits_div y column, digits_mod y column)

  pub pixel_local : local_at f ((y * f.width + x) * bytes_of f.mono + c) ≡ local_of (bytes_of f.mono) f.block_width f.block_height x y c
  unfolding byte_local
  pixel_local = rw (digits_div (y * f.width + x) byte, digits_mod (y * f.width + x) byte, digits_div y column, digits_mod y column)

  pub pixel_in : Valid f → y < f.height → (y * f.width + x) * bytes_of f.mono + c < f.output
  pixel_in valid row =
      let pixel : y * f.width + x < f.width * f.height = omega (arith, row_fits y f.height f.width row) in
      rw valid.output_is (grouped_in (f.width * f.height) (bytes_of f.mono) (y * f.width + x) c pixel byte)

  -- in any picture it is one of its segment's bytes
  pub pixel_at_lem : Valid f → y < f.height → (new : ℕ → List ℕ)
      → get_or (picture_of f new) ((y * f.width + x) * bytes_of f.mono + c) 0
      ≡ get_or (new (segment_of f.block_width f.block_height f.across x y))
      (local_of (bytes_of f.mono) f.block_width f.block_height x y c) 0
  pixel_at_lem valid row new = picture_at f new _ (pixel_in valid row) ∙ rw (pixel_segment_lem, pixel_local)
