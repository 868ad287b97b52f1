-- Strict reading without order: what is true of a page exactly if its inspection succeeds, what that charges and gives, when decode of a
-- handle succeeds, or both in one call, and what is shown. Strict reading sees a file whole: its v is `seen file []`.
use Rattle.std.specs.Prelude.{ℕ, ◌+◌, ◌-◌, ◌*◌, ◌%◌, ◌<◌, ◌≤◌, ◌≡◌, List, length, get_or}
use Rattle.head.specs.Heads.{planes_of, bytes_of}
use Rattle.checks.specs.Sizes.{most64}
use Rattle.seen.specs.Seen.{Seen, There}
use Rattle.header.specs.Header.{big_endian, first_of, HeaderFine}
use Rattle.directory.specs.Directory.{slots_at}
use Rattle.tiff.specs.Walk.{page_at}
use Rattle.geometry.specs.Geometry.{segment_of}
use Rattle.entries.specs.Values.{size_of, place_of}
use Rattle.header.specs.declared.Limits.{Limits}
use Rattle.front.specs.Front.{format_seen}
use Rattle.picture.specs.declared.Format.{Format}
use Rattle.tiff.specs.Accepted.{WalkFine}
use Rattle.profile.specs.Accepted.{ProfileFine}
use Rattle.front.specs.Accepted.{front_fee}
use Rattle.packets.specs.Packets.{Fills, expand}
use Rattle.pixel.specs.Luv.{pixel_of}
use Rattle.picture.specs.Picture.{area_of}
use Rattle.plan.specs.Plan.{offset_of, count_of, fee_of}
use Rattle.logluv_segment.specs.Segment.{stored, fees_of}
use Rattle.inspection.specs.Inspection.{handle_of}
use Rattle.handle.specs.declared.Handle.{Handle}

-- segment k is good: the bytes of its two entries and its stored bytes lie in the file and came, and its packets are accepted (rule 8.6)
pub record Good (v : Seen) (f : Format) (k : ℕ) : Type 0 where
  pub offset_there : There v (place_of v f.big f.offsets k) (size_of v f.big f.offsets)
  pub count_there : There v (place_of v f.big f.counts k) (size_of v f.big f.counts)
  pub range_is_there : There v (offset_of v f k) (count_of v f k)
  pub packets : Fills f.block_width (stored v f k) (planes_of f.mono * area_of f k)

-- good, with (p + b)A and the fee allowed (rule 4.2)
pub record SegmentFine (v : Seen) (f : Format) (maxOutput k : ℕ) : Type 0 where
  pub good : Good v f k
  pub room_allowed : (planes_of f.mono + bytes_of f.mono) * area_of f k ≤ maxOutput
  pub fee_fits : fee_of v f k ≤ most64

-- the limits on the file and the page, and the front part
pub record PageFine (v : Seen) (page : ℕ) (l : Limits) : Type 0 where
  pub input_allowed : v.size ≤ l.max_input
  pub page_allowed : page < l.max_directories
  pub header : HeaderFine v
  pub directories : WalkFine v (big_endian v) l.max_tags page (first_of v)
  pub profile : ProfileFine v (big_endian v) (slots_at v (big_endian v) (page_at v (big_endian v) page (first_of v))) l

-- these, and each segment
pub record PictureFine (v : Seen) (page : ℕ) (l : Limits) : Type 0 where
  pub page_fine : PageFine v page l
  pub each_segment : (k : ℕ) → k < (format_seen v page).segments → SegmentFine v (format_seen v page) l.max_output k

-- the directories, 128 and the sum of fees (rule 5.4)
abbrev pub inspection_charge : Seen → ℕ → ℕ
inspection_charge v page = front_fee v page + fees_of v (format_seen v page) 0 (format_seen v page).segments

-- an inspection with u units at hand that gives a handle and leaves w
pub record Inspects (v : Seen) (page : ℕ) (l : Limits) (u w : ℕ) (h : Handle) : Type 0 where
  pub fine : PictureFine v page l
  pub covered : inspection_charge v page ≤ u
  pub rest : w ≡ u - inspection_charge v page
  pub handle_is : h ≡ handle_of v page

-- a handle is given: the picture of its own page is fine, what that charges is a number of 64 bits, and the handle is the one defined (rule 7.4)
pub record Given (v : Seen) (l : Limits) (h : Handle) : Type 0 where
  pub fine : PictureFine v h.page l
  pub charge_fits : inspection_charge v h.page ≤ most64
  pub handle_is : h ≡ handle_of v h.page

-- decode of a handle into buffers of these lengths, with u units at hand and w left (rule 7.4)
pub record Decodes (v : Seen) (l : Limits) (h : Handle) (output scratch u w : ℕ) : Type 0 where
  pub given : Given v l h
  pub output_holds : h.format.output ≤ output
  pub scratch_holds : h.scratch ≤ scratch
  pub covered : h.work ≤ u
  pub rest : w ≡ u - h.work

-- inspection of a page and decode of what it gives in one call, with u units at hand and w left: both are charged (rule 7.6)
pub record ReadsPage (v : Seen) (page : ℕ) (l : Limits) (output scratch u w : ℕ) (h : Handle) : Type 0 where
  pub fine : PictureFine v page l
  pub output_holds : (handle_of v page).format.output ≤ output
  pub scratch_holds : (handle_of v page).scratch ≤ scratch
  pub covered : inspection_charge v page + (handle_of v page).work ≤ u
  pub rest : w ≡ u - (inspection_charge v page + (handle_of v page).work)
  pub handle_is : h ≡ handle_of v page

-- the largest (p + b)A of a format's segments: none needs more, and segment 0 needs so much (rule 7.3)
pub record Largest (f : Format) (scratch : ℕ) : Type 0 where
  pub none_more : (k : ℕ) → k < f.segments → (planes_of f.mono + bytes_of f.mono) * area_of f k ≤ scratch
  pub some_segment : 0 < f.segments
  pub first_all : (planes_of f.mono + bytes_of f.mono) * area_of f 0 ≡ scratch

-- the bytes of pixel (x, y) by the planes of its row in its segment: L and, for colour, uv(u) and uv(v), little-endian (rules 6.1, 6.2 and 6.5)
abbrev pub place_in : Format → ℕ → ℕ → ℕ → ℕ
place_in f x y plane = y % f.block_height * (planes_of f.mono * f.block_width) + (plane * f.block_width + x % f.block_width)

module _ (v : Seen) (f : Format) (x y : ℕ) where
  abbrev pub plane_byte : ℕ → ℕ
  plane_byte plane = get_or (expand (stored v f (segment_of f.block_width f.block_height f.across x y)) 0) (place_in f x y plane) 0

  abbrev pub pixel_seen : List ℕ
  pixel_seen = pixel_of f.mono plane_byte

-- what stands in the two lent buffers after a handle's picture is shown: each byte of pixel (x, y) as defined, what came after the picture as it
-- was, and scratch zero as far as its size (rule 7.5)
pub record Shows (v : Seen) (h : Handle) (output scratch output' scratch' : List ℕ) : Type 0 where
  pub pixel_bytes : (x y b : ℕ) → x < h.format.width → y < h.format.height → b < bytes_of h.format.mono
      → get_or output' ((y * h.format.width + x) * bytes_of h.format.mono + b) 0 ≡ get_or (pixel_seen v h.format x y) b 0
  pub output_tail : (q : ℕ) → bytes_of h.format.mono * (h.format.width * h.format.height) ≤ q → get_or output' q 0 ≡ get_or output q 0
  pub output_long : length output' ≡ length output
  pub scratch_zero : (q : ℕ) → q < h.scratch → get_or scratch' q 0 ≡ 0
  pub scratch_tail : (q : ℕ) → h.scratch ≤ q → get_or scratch' q 0 ≡ get_or scratch q 0
  pub scratch_long : length scratch' ≡ length scratch
