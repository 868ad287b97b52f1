-- What a reading leaves in the lent buffers: a quality byte for each segment, the pixels of the good ones, zeros for all others.
use Prim.Native.Nat.{ℕ, ◌+◌, ◌*◌, ◌<◌, ◌≤◌}
use mathlib.Core.Path.{◌≡◌, sym, ap, ◌∙◌}
use mathlib.Core.Logic.{◌↔◌}
use mathlib.Core.List.{List, []}
use native.Mathlib.Omega.{arith}
use lib.ListN.{length, get_or, replicate, length-replicate}
use Rattle.lists.specs.Lists.{tabulate, overlay}
use Rattle.lists.proofs.Overlay.{only_zeros, length_span, get_d_tabulate, overlay_new, overlay_old}
use Rattle.head.specs.Heads.{Head, colour_head, bytes_of, channels_of}
use Rattle.head.proofs.Heads.{bytes_are, same_channels}
use Rattle.seen.specs.Seen.{Seen, seen}
use Rattle.geometry.specs.Geometry.{segment_of, local_of}
use Rattle.front.specs.Front.{format_seen}
use Rattle.picture.specs.Inner.{Valid}
use Rattle.picture.specs.declared.Format.{Format}
use Rattle.pixel.specs.Luv.{pixel, pixel_of}
use Rattle.pixel.proofs.Uv.{uv_least}
use Rattle.picture.specs.Picture.{scratch_of, picture_of}
use Rattle.showing.specs.Shown.{shown}
use Rattle.picture.proofs.Pictures.{picture_length, pixel_in, pixel_at_lem}
use Rattle.quality.specs.Quality.{code_of, shows_of}
use Rattle.patchy.specs.declared.Sizes.{Sizes}
use Rattle.promises.specs.Strict.{Good, pixel_seen}
use Rattle.promises.specs.Patchy.{Call, view, page_format, output_then, scratch_then, quality_then, Answered, Reads, MarkedGood, defined_pixel, PixelOf, pixel_bytes, segment_here, place_here, ShowsPixel, Blank}
use Rattle.promises.proofs.Strict.{page_valid, page_readable}
use Rattle.promises.proofs.Patchy.{reading_exact}
use Rattle.promises.proofs.Decoded.{segment_below, pixel_of_good}
use Rattle.promises.proofs.Own.{format_own, pixel_own}
use Rattle.promises.proofs.Codes.{code_good, good_shown, other_blank}

-- byte b of pixel (x, y), where a picture that shows the good segments lies over an old buffer
module _ (v : Seen) (f : Format) (ok : Valid f) (old : List ℕ) (x y b : ℕ) (column : x < f.width) (row : y < f.height)
    (byte : b < bytes_of f.mono) where
  abbrev segment : ℕ
  segment = segment_of f.block_width f.block_height f.across x y

  abbrev place : ℕ
  place = (y * f.width + x) * bytes_of f.mono + b

  pixel_over : get_or (overlay (picture_of f (shows_of v f)) old) place 0
      ≡ get_or (shows_of v f segment) (local_of (bytes_of f.mono) f.block_width f.block_height x y b) 0
  pixel_over =
      overlay_new _ _ place (rw (picture_length f (shows_of v f)) (pixel_in f x y b column byte ok row))
      ∙ pixel_at_lem f x y b column byte ok row (shows_of v f)

  good_over : Good v f segment → get_or (overlay (picture_of f (shows_of v f)) old) place 0 ≡ get_or (pixel_seen v f x y) b 0
  good_over good =
      pixel_over ∙ rw (good_shown v f segment good) (sym (pixel_at_lem f x y b column byte ok row (shown v f)))
      ∙ pixel_of_good v f ok x y b column row byte good

  blank_over : (Good v f segment → ⊥) → get_or (overlay (picture_of f (shows_of v f)) old) place 0 ≡ 0
  blank_over bad = pixel_over ∙ rw (other_blank v f segment bad)

-- uv is never 0, so one of its two bytes is not
colour_some : (plane : ℕ → ℕ) → get_or (pixel_of colour_head plane) 2 0 ≡ 0 → get_or (pixel_of colour_head plane) 3 0 ≡ 0 → ⊥
unfolding pixel
colour_some plane a b = omega (arith, uv_least (plane 2))

pixel_some : (head : Head) → head ≡ colour_head → (plane : ℕ → ℕ) → get_or (pixel_of head plane) 2 0 ≡ 0 → get_or (pixel_of head plane) 3 0 ≡ 0 → ⊥
pixel_some head e plane a b = colour_some plane (rw e at a) (rw e at b)

module _ (c : Call) (s : Sizes) (w : ℕ) (answered : Answered c s w) where
  reads : Reads c s w
  reads = (reading_exact c s w).0 answered

  valid_format : Valid (page_format c)
  valid_format = page_valid (view c) c.page c.limits reads.fine.page_fine

  codes_length : length (tabulate s.segments (code_of (view c) (page_format c))) ≡ s.segments
  codes_length = length_span (code_of (view c) (page_format c)) 0 s.segments

  codes_left : quality_then c ≡ overlay (tabulate s.segments (code_of (view c) (page_format c))) (replicate (length c.quality) 0)
  codes_left = rw (answered, reads.sizes_are)

  picture_left : output_then c ≡ overlay (picture_of (page_format c) (shows_of (view c) (page_format c))) c.output
  picture_left = rw answered

  scratch_left : scratch_then c ≡ overlay (replicate (scratch_of (page_format c)) 0) c.scratch
  scratch_left = rw answered

  -- each segment has its quality byte
  pub quality_byte : (k : ℕ) → k < s.segments → get_or (quality_then c) k 0 ≡ code_of (view c) (page_format c) k
  quality_byte k h = rw codes_left (overlay_new _ _ k (rw codes_length h) ∙ get_d_tabulate (code_of (view c) (page_format c)) s.segments k h)

  -- after the last of them all is 0
  pub quality_after_lem : (k : ℕ) → s.segments ≤ k → get_or (quality_then c) k 0 ≡ 0
  quality_after_lem k h = rw codes_left (overlay_old _ _ k (rw codes_length h) ∙ only_zeros (length c.quality) k)

  -- it is 1 exactly if the segment is good
  pub quality_good : (k : ℕ) → k < s.segments → MarkedGood c k ↔ Good (view c) (page_format c) k
  quality_good k h = rw (quality_byte k h) (code_good (view c) (page_format c) k)

  -- what stands after the picture stays
  pub output_after_lem : (q : ℕ) → (page_format c).output ≤ q → get_or (output_then c) q 0 ≡ get_or c.output q 0
  output_after_lem q h = rw picture_left (overlay_old _ _ q (rw (picture_length (page_format c) (shows_of (view c) (page_format c))) h))

  -- the part of scratch that is asked for is all 0, the rest stays
  pub scratch_cleared : (q : ℕ) → q < scratch_of (page_format c) → get_or (scratch_then c) q 0 ≡ 0
  scratch_cleared q h =
      rw scratch_left (overlay_new _ _ q (rw (length-replicate {A = ℕ} (scratch_of (page_format c)) 0) h) ∙ only_zeros (scratch_of (page_format c)) q)

  pub scratch_after_lem : (q : ℕ) → scratch_of (page_format c) ≤ q → get_or (scratch_then c) q 0 ≡ get_or c.scratch q 0
  scratch_after_lem q h = rw scratch_left (overlay_old _ _ q (rw (length-replicate {A = ℕ} (scratch_of (page_format c)) 0) h))

  -- a pixel of a good segment has the bytes that its planes give
  pixel_good : (x y b : ℕ) → x < s.width → y < s.height → b < pixel_bytes c s → Good (view c) (page_format c) (segment_here c s x y)
      → get_or (output_then c) (place_here c s x y b) 0 ≡ get_or (pixel_seen (view c) (page_format c) x y) b 0
  pixel_good = rw (picture_left, reads.sizes_are, ← bytes_are (page_format c).mono) (good_over (view c) (page_format c) valid_format c.output)

  -- a pixel of any other is zeros alone
  pixel_blank : (x y b : ℕ) → x < s.width → y < s.height → b < pixel_bytes c s → (Good (view c) (page_format c) (segment_here c s x y) → ⊥)
      → get_or (output_then c) (place_here c s x y b) 0 ≡ 0
  pixel_blank = rw (picture_left, reads.sizes_are, ← bytes_are (page_format c).mono) (blank_over (view c) (page_format c) valid_format c.output)

  -- the format is the file's own, and so are the pixels of a good segment
  pub own_format : page_format c ≡ format_seen (seen c.file []) c.page
  own_format = let p = reads.fine.page_fine in format_own c.file c.map c.page c.limits.max_tags p.header p.directories

  pub own_pixel : (x y : ℕ) → Good (view c) (page_format c) (segment_here c s x y) → pixel_seen (view c) (page_format c) x y ≡ defined_pixel c x y
  own_pixel x y good =
      let readable = page_readable (view c) c.page c.limits reads.fine.page_fine in
      pixel_own c.file c.map (page_format c) readable x y (rw reads.sizes_are at good)
      ∙ ap (λ (f : Format). pixel_seen (seen c.file []) f x y) own_format

  -- three channels are those of the colour head
  defined_colour : s.channels ≡ 3 → (format_seen (seen c.file []) c.page).mono ≡ colour_head
  defined_colour e =
      let told : s.channels ≡ channels_of (page_format c).mono = ap (λ (z : Sizes). z.channels) reads.sizes_are in
      same_channels _ colour_head (ap (λ (f : Format). channels_of f.mono) (sym own_format) ∙ sym told ∙ e)

  -- the segment of a pixel is one of the picture
  segment_in : (x y : ℕ) → x < s.width → y < s.height → segment_here c s x y < s.segments
  segment_in = rw reads.sizes_are (segment_below (page_format c) valid_format)

  module _ (x y : ℕ) (pixel_of : PixelOf c s x y) where
    is_good : MarkedGood c (segment_here c s x y) ↔ Good (view c) (page_format c) (segment_here c s x y)
    is_good = quality_good (segment_here c s x y) (segment_in x y pixel_of.0 pixel_of.1)

    -- a pixel of a segment that is marked good shows the bytes that the file itself defines
    pub good_shows : MarkedGood c (segment_here c s x y) → ShowsPixel c s x y (defined_pixel c x y)
    good_shows marked b byte =
        let good = is_good.0 marked in
        pixel_good x y b pixel_of.0 pixel_of.1 byte good ∙ ap (λ (l : List ℕ). get_or l b 0) (own_pixel x y good)

    -- one of any other shows zeros alone
    pub others_blank : (MarkedGood c (segment_here c s x y) → ⊥) → Blank c s x y
    others_blank unmarked b byte = pixel_blank x y b pixel_of.0 pixel_of.1 byte (λ good. unmarked (is_good.1 good))

    -- which none of the colour head that is marked good shows
    module _ (colour : s.channels ≡ 3) where
      pub good_never_blank : MarkedGood c (segment_here c s x y) → Blank c s x y → ⊥
      good_never_blank marked blank =
          pixel_some _ (defined_colour colour) _ (sym (good_shows marked 2 (omega arith)) ∙ blank 2 (omega arith))
          (sym (good_shows marked 3 (omega arith)) ∙ blank 3 (omega arith))

      -- old data looks old: a pixel is six zeros exactly if its segment is not marked good
      pub blank_exactly : Blank c s x y ↔ (MarkedGood c (segment_here c s x y) → ⊥)
      blank_exactly = (λ blank marked. good_never_blank marked blank, others_blank)
