-- What strict reading leaves in the lent buffers: the definition's picture, pixel by pixel, what came after it as it was, and scratch zeroed.
use Prim.Native.Nat.{ℕ, ◌+◌, ◌*◌, ◌/◌, ◌<◌, ◌≤◌}
use mathlib.Core.Path.{◌≡◌, ◌∙◌}
use mathlib.Core.List.{List}
use native.Mathlib.Omega.{arith}
use lib.ListN.{length, get_or, length-replicate}
use Rattle.lists.proofs.Overlay.{only_zeros, overlay_new, overlay_old, overlay_length}
use Rattle.lists.proofs.Counters.{grouped_in}
use Rattle.head.specs.Heads.{bytes_of}
use Rattle.seen.specs.Seen.{Seen}
use Rattle.geometry.specs.Geometry.{pieces, segment_of}
use Rattle.header.specs.declared.Limits.{Limits}
use Rattle.geometry.proofs.Cutting.{piece_below}
use Rattle.front.specs.Front.{format_seen}
use Rattle.picture.specs.Inner.{Valid}
use Rattle.picture.specs.declared.Format.{Format}
use Rattle.showing.specs.Shown.{shown}
use Rattle.picture.specs.Picture.{picture_of}
use Rattle.picture.proofs.Pictures.{picture_length, pixel_in}
use Rattle.showing.proofs.Showing.{pixel_shown, planes_length}
use Rattle.inspection.specs.Inspection.{handle_of}
use Rattle.decoding.specs.Strict.{picture_over, cleared_over}
use Rattle.handle.specs.declared.Handle.{Handle}
use Rattle.handle.specs.Handle.{inspected_with}
use Rattle.promises.specs.Strict.{Good, PictureFine, pixel_seen, Shows}
use Rattle.promises.specs.StrictCall.{StrictCall, whole_view, decode_answer, decode_output, decode_scratch}
use Rattle.promises.specs.StrictCall as strict
use Rattle.promises.proofs.Segments.{packets_fill}
use Rattle.promises.proofs.Strict.{page_valid}
use Rattle.promises.proofs.Handles.{decode_exact}
use Rattle.promises.proofs.Reading.{read_exact}
use Rattle.std.specs.Prelude.{Ok}

-- the segment that has a pixel is one of the picture
pub segment_below : (f : Format) → Valid f → (x y : ℕ) → x < f.width → y < f.height
    → segment_of f.block_width f.block_height f.across x y < f.segments
segment_below f ok x y column row =
    let bw = f.block_width in
    let bh = f.block_height in
    let along : x / bw < f.across = rw ok.across_is (piece_below f.width bw x ok.some_block_width column) in
    omega (
      arith,
      ok.segments_are,
      grouped_in (pieces f.height bh) f.across (y / bh) (x / bw) (piece_below f.height bh y ok.some_block_height row) along,
    )

-- a pixel of a good segment, whatever the others are
pub pixel_of_good : (v : Seen) (f : Format) → Valid f → (x y c : ℕ) → x < f.width → y < f.height → c < bytes_of f.mono
    → Good v f (segment_of f.block_width f.block_height f.across x y)
    → get_or (picture_of f (shown v f)) ((y * f.width + x) * bytes_of f.mono + c) 0 ≡ get_or (pixel_seen v f x y) c 0
pixel_of_good v f ok x y c column row byte good =
    let k = segment_of f.block_width f.block_height f.across x y in
    pixel_shown v f ok x y c column row byte (planes_length v f k ((packets_fill v f k).1 good.packets))

-- the picture of a page that is fine, over the output, and the part of scratch that is asked for cleared
module _ (v : Seen) (page : ℕ) (l : Limits) (fine : PictureFine v page l) (output scratch : List ℕ) where
  abbrev f : Format
  f = format_seen v page

  abbrev h : Handle
  h = handle_of v page

  shown_over_lem : h.format.output ≤ length output → h.scratch ≤ length scratch → Shows v h output scratch (picture_over v h output) (cleared_over h scratch)
  shown_over_lem output_holds scratch_holds =
      let ok = page_valid v page l fine.page_fine in
      let long = picture_length f (shown v f) in
      let zeros = length-replicate {A = ℕ} h.scratch 0 in
      record {
        pixel_bytes = λ x y b column row byte.
            overlay_new _ _ _ (rw long (pixel_in f x y b column byte ok row))
            ∙ pixel_of_good v f ok x y b column row byte (fine.each_segment _ (segment_below f ok x y column row)).good;
        output_tail = λ q beyond. overlay_old _ _ q (omega (arith, long, ok.output_is));
        output_long = overlay_length _ _ (omega (arith, long));
        scratch_zero = λ q below. overlay_new _ _ q (omega (arith, zeros)) ∙ only_zeros h.scratch q;
        scratch_tail = λ q beyond. overlay_old _ _ q (omega (arith, zeros));
        scratch_long = overlay_length _ _ (omega (arith, zeros));
      }

-- so that is what decode leaves where it passes
pub decode_shows : (c : StrictCall) (h : Handle) (w : ℕ) → decode_answer c h ≡ Ok w
    → Shows (whole_view c) h c.output c.scratch (decode_output c h) (decode_scratch c h)
decode_shows c h w passed =
    let v = whole_view c in
    let d = (decode_exact v c.limits h (length c.output) (length c.scratch) c.units w).0 passed in
    let g = d.given in
    rw (passed, g.handle_is) (
    shown_over_lem v h.page c.limits g.fine c.output c.scratch
    (rw g.handle_is at d.output_holds) (rw g.handle_is at d.scratch_holds)
    )

-- and inspection and decode in one call
pub read_shows : (c : StrictCall) (h : Handle) (w : ℕ) → strict.answer c ≡ Ok (inspected_with h w)
    → Shows (whole_view c) h c.output c.scratch (strict.output_then c) (strict.scratch_then c)
read_shows c h w answered =
    let v = whole_view c in
    let r = (read_exact v c.page c.limits (length c.output) (length c.scratch) c.units w h).0 answered in
    rw (answered, r.handle_is) (shown_over_lem v c.page c.limits r.fine c.output c.scratch r.output_holds r.scratch_holds)
