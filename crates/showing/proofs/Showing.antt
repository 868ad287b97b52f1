-- A segment that is shown: the part of scratch that its packets fill has its planes, whose pixels it paints.
use Prim.Native.Nat.{ℕ, ◌+◌, ◌-◌, ◌*◌, ◌/◌, ◌%◌, ◌<◌}
use mathlib.Core.Path.{◌≡◌, sym, ◌∙◌}
use mathlib.Core.List.{List}
use native.Mathlib.Omega.{arith}
use native.Mathlib.Nat.{add-sub_cancel_left, div-add-mod', mod-lt}
use lib.Arith.{digits_div}
use lib.ListN.{length, take, drop, get_or}
use lib.Seq.{take_at}
use borrow.Author.Rules.{rules}
use Rattle.lists.specs.Lists.{overlay}
use Rattle.head.specs.Heads.{planes_of, bytes_of}
use Rattle.checks.specs.Checks.{Holds}
use Rattle.seen.specs.Seen.{Seen, seen}
use Rattle.packets.specs.Packets.{expand, part}
use Rattle.packets.specs.Inner.{Accepted}
use Rattle.packets.proofs.Expand.{expand_length}
use Rattle.pixel.specs.Luv.{pixel_of}
use Rattle.luv.proofs.Index.{pixel_byte}
use Rattle.geometry.specs.Geometry.{segment_of, local_of}
use Rattle.geometry.proofs.Cutting.{below_rows, piece_below}
use Rattle.picture.specs.declared.Format.{Format}
use Rattle.picture.specs.Picture.{rows_in, needed_of, picture_of, painted}
use Rattle.picture.specs.Inner.{Valid, Readable}
use Rattle.plan.proofs.Planning.{Located}
use Rattle.paint.specs.Paint.{pixels_of}
use Rattle.picture.proofs.Pictures.{pixel_at_lem}
use Rattle.logluv_segment.specs.Segment.{fill_checks, stored, stored_checks}
use Rattle.showing.specs.Shown.{planes_in, shown_by, shown}
use Rattle.showing.specs.Inner.{SegmentShowable}
use Rattle.logluv_segment.proofs.Checking.{located_in, stored_is, stored_checks_lem}

-- accepted packets stand for all planes of a segment
fill_length : (f : Format) (k : ℕ) (bytes : List ℕ) → Holds (fill_checks f k bytes) → length (expand bytes 0) ≡ needed_of f k
fill_length f k bytes h = expand_length bytes (needed_of f k) (record { stride = f.block_width; holds = h })

pub planes_length : (v : Seen) (f : Format) (k : ℕ) → Holds (stored_checks v f k) → length (planes_in (stored v f k)) ≡ needed_of f k
unfolding stored_checks
planes_length v f k h = fill_length f k (stored v f k) h

-- the part of the file that is lent, and the part of scratch that it fills
module _
    (file : List ℕ)
    (f : Format)
    (k offset count needed : ℕ)
    (ok : SegmentShowable file f k offset count)
    (is-needed : needed ≡ needed_of f k) where
  pub part_accepted : Accepted (take (offset + count - offset) (drop offset file)) needed
  part_accepted = record { stride = f.block_width; holds = rw (add-sub_cancel_left, is-needed) ok.packets }

  module _ (old new : List ℕ) (wrote : new ≡ overlay (expand (take (offset + count - offset) (drop offset file)) 0) old) where
    pub planes_wrote : new ≡ overlay (planes_in (part file offset count)) old
    planes_wrote = rw add-sub_cancel_left at wrote

    planes_are : take needed new ≡ planes_in (part file offset count)
    unfolding overlay
    planes_are = rw planes_wrote (take_at _ _ needed (fill_length f k (part file offset count) ok.packets ∙ sym is-needed))

    pub shows : (before after : List ℕ) → after ≡ painted f k (pixels_of f k (take needed new)) before
        → after ≡ painted f k (shown_by f k (part file offset count)) before
    shows before after q = rw planes_are at q

pub ruleset showing = (part_accepted, planes_wrote, rules)

-- a segment that is located and whose packets are accepted can be shown, and what is written is what is seen of it
module _ (file map : List ℕ) (f : Format) (k offset count : ℕ) (here : Located (seen file map) f k offset count) where
  pub showable : Readable (seen file map) f → k < f.segments → Holds (stored_checks (seen file map) f k) → SegmentShowable file f k offset count
  showable ok h accepted = record {
    in_file = located_in file map f k offset count here ok h;
    packets = rw (stored_checks_lem file map f k offset count here) at accepted;
  }

  module _ (old new : List ℕ) where
    pub stored_part : new ≡ overlay (planes_in (part file offset count)) old → new ≡ overlay (planes_in (stored (seen file map) f k)) old
    stored_part e = rw (stored_is file map f k offset count here) e

    pub shown_part : new ≡ painted f k (shown_by f k (part file offset count)) old → new ≡ painted f k (shown (seen file map) f k) old
    unfolding shown
    shown_part e = rw (stored_is file map f k offset count here) e

-- what stands where in the picture of all segments: each pixel by the planes of its segment
module _ (v : Seen) (f : Format) (valid : Valid f) (x y c : ℕ) (column : x < f.width) (row : y < f.height) (byte : c < bytes_of f.mono) where
  pub pixel_shown :
      let bw = f.block_width in
      let s = segment_of bw f.block_height f.across x y in
      let planes = planes_in (stored v f s) in
      let from = y % f.block_height * (planes_of f.mono * bw) in
      length planes ≡ needed_of f s
      → get_or (picture_of f (shown v f)) ((y * f.width + x) * bytes_of f.mono + c) 0
      ≡ get_or (pixel_of f.mono (λ plane. get_or planes (from + (plane * bw + x % bw)) 0)) c 0
  unfolding shown
  pixel_shown whole =
      let bw = f.block_width in
      let bh = f.block_height in
      let s = segment_of bw bh f.across x y in
      let planes = planes_in (stored v f s) in
      let b : x / bw < f.across = rw valid.across_is (piece_below f.width bw x valid.some_block_width column) in
      let t : s / f.across * bh + y % bh < f.height = rw (digits_div (y / bh) b) (omega (arith, div-add-mod' y bh)) in
      let r = below_rows f.tiled f.height bh f.across s (y % bh) (mod-lt y valid.some_block_height) t in
      let size = bytes_of f.mono in
      let l : local_of size bw bh x y c ≡ y % bh * (size * bw) + (x % bw * size + c) = omega arith in
      pixel_at_lem f x y c column byte valid row (shown v f)
      ∙ rw l
      (pixel_byte f.mono bw (rows_in f s) planes (y % bh) (x % bw) c (omega arith) r (mod-lt x valid.some_block_width) byte)
