-- Patchy reading without order: what is true of a call exactly if it is answered, what that charges, and when two calls differ in
-- nothing but bytes that did not come and what the buffers held.
use Rattle.std.specs.Prelude.{ℕ, ◌+◌, ◌-◌, ◌*◌, ◌<◌, ◌≤◌, ◌≡◌, ◌⊎◌, true, List, [], length, take, get_or, Result, Ok, Err}
use Rattle.checks.specs.Sizes.{most64}
use Rattle.checks.specs.Numbers.{leaving}
use Rattle.checks.specs.Checks.{Check}
use Rattle.checks.specs.declared.Refusal.{Refusal}
use Rattle.checks.specs.declared.Refused.{Refused}
use Rattle.seen.specs.Seen.{Seen, seen, blocks_in, arrived, Agree}
use Rattle.header.specs.declared.Limits.{Limits}
use Rattle.front.specs.Front.{format_seen}
use Rattle.front.specs.Accepted.{front_fee}
use Rattle.geometry.specs.Geometry.{segment_of}
use Rattle.picture.specs.declared.Format.{Format}
use Rattle.picture.specs.Picture.{scratch_of}
use Rattle.admission.specs.Admission.{room_in, picture_charge, patchy_checks}
use Rattle.patchy.specs.Patchy.{sizes_of, reading_with, reading_left, reading_of, output_after, scratch_after, quality_after}
use Rattle.admission.specs.declared.Room.{Room}
use Rattle.patchy.specs.declared.Sizes.{Sizes}
use Rattle.patchy.specs.declared.Reading.{Reading}
use Rattle.promises.specs.Strict.{PageFine, pixel_seen}

-- a call: the file and its delivery map, what is asked for, the units at hand, and the lent buffers as they stood before
pub record Call : Type 0 where
  pub file : List ℕ
  pub map : List ℕ
  pub page : ℕ
  pub limits : Limits
  pub units : ℕ
  pub output : List ℕ
  pub scratch : List ℕ
  pub quality : List ℕ

module _ (c : Call) where
  -- what is seen of its file, and the format of its page
  abbrev pub view : Seen
  view = seen c.file c.map

  abbrev pub page_format : Format
  page_format = format_seen view c.page

  abbrev pub room : Room
  room = room_in c.output c.scratch c.quality

  -- what `patchy::read` promises of it: its answer, with the units left, and the three buffers afterwards
  abbrev pub answer : Result Reading Refused
  answer = reading_of view (length c.map) c.page c.limits room c.units

  abbrev pub left : ℕ
  left = reading_left answer

  abbrev pub output_then : List ℕ
  output_then = output_after view c.page answer c.output

  abbrev pub scratch_then : List ℕ
  scratch_then = scratch_after view c.page answer c.scratch

  abbrev pub quality_then : List ℕ
  quality_then = quality_after view c.page answer c.quality

  -- all of its checks, in their order
  abbrev pub checks : List Check
  checks = patchy_checks view (length c.map) c.page c.limits room

  -- it is answered with these sizes and w units left, or refused with e and w units left
  abbrev pub Answered : Sizes → ℕ → Type 0
  Answered s w = answer ≡ Ok (reading_with s w)

  abbrev pub RefusedWith : Refusal → ℕ → Type 0
  RefusedWith e w = answer ≡ Err (leaving e w)

  -- a map of the right length or none, and buffers that hold the picture
  pub record LentFine : Type 0 where
    pub map_fits : (length c.map ≡ 0) ⊎ (length c.map ≡ blocks_in (length c.file))
    pub output_holds : page_format.output ≤ length c.output
    pub scratch_holds : scratch_of page_format ≤ length c.scratch
    pub quality_holds : page_format.segments ≤ length c.quality

  -- each test of the reading holds
  pub record ReadFine : Type 0 where
    pub page_fine : PageFine view c.page c.limits
    pub lent_fine : LentFine
    pub scratch_allowed : scratch_of page_format ≤ c.limits.max_output
    pub charge_fits : picture_charge view page_format ≤ most64

  -- the directories, 128, and for each segment 1 or its fee (rule 5.6)
  abbrev pub reading_charge : ℕ
  reading_charge = front_fee view c.page + picture_charge view page_format

  -- an answer with these sizes that leaves w units
  pub record Reads (s : Sizes) (w : ℕ) : Type 0 where
    pub fine : ReadFine
    pub covered : reading_charge ≤ c.units
    pub rest : w ≡ c.units - reading_charge
    pub sizes_are : s ≡ sizes_of page_format

-- segment k is marked good
abbrev pub MarkedGood : Call → ℕ → Type 0
MarkedGood c k = get_or (quality_then c) k 0 ≡ 1

-- the bytes that the file itself defines for pixel (x, y), whatever came
abbrev pub defined_pixel : Call → ℕ → ℕ → List ℕ
defined_pixel c x y = pixel_seen (seen c.file []) (format_seen (seen c.file []) c.page) x y

-- in an answer of these sizes
module _ (c : Call) (s : Sizes) where
  -- (x, y) is a pixel
  abbrev pub PixelOf : ℕ → ℕ → Type 0
  PixelOf x y = (x < s.width) × (y < s.height)

  -- it has two bytes for each channel
  abbrev pub pixel_bytes : ℕ
  pixel_bytes = 2 * s.channels

  -- its segment, and the place of its byte b in the output
  abbrev pub segment_here : ℕ → ℕ → ℕ
  segment_here x y = segment_of s.block_width s.block_height (page_format c).across x y

  abbrev pub place_here : ℕ → ℕ → ℕ → ℕ
  place_here x y b = (y * s.width + x) * pixel_bytes + b

  -- it shows these bytes, or zeros alone
  abbrev pub ShowsPixel : ℕ → ℕ → List ℕ → Type 0
  ShowsPixel x y bytes = (b : ℕ) → b < pixel_bytes → get_or (output_then c) (place_here x y b) 0 ≡ get_or bytes b 0

  abbrev pub Blank : ℕ → ℕ → Type 0
  Blank x y = (b : ℕ) → b < pixel_bytes → get_or (output_then c) (place_here x y b) 0 ≡ 0

-- two calls with one map, page, limits and units, buffers of the same lengths, and files of one length that agree in every block that came (rule 8.10)
pub record Alike (a b : Call) : Type 0 where
  pub one_map : a.map ≡ b.map
  pub one_page : a.page ≡ b.page
  pub one_limits : a.limits ≡ b.limits
  pub one_budget : a.units ≡ b.units
  pub output_long : length a.output ≡ length b.output
  pub scratch_long : length a.scratch ≡ length b.scratch
  pub quality_long : length a.quality ≡ length b.quality
  pub files_agree : Agree a.file b.file b.map

-- one answer with the same units left, the same picture where there is one, the same quality bytes (rule 8.10)
pub record SameOutcome (a b : Call) : Type 0 where
  pub answers : answer a ≡ answer b
  pub pixels : (s : Sizes) (w : ℕ) → answer b ≡ Ok (reading_with s w) → take (2 * s.channels * (s.width * s.height)) (output_then a)
      ≡ take (2 * s.channels * (s.width * s.height)) (output_then b)
  pub marks : quality_then a ≡ quality_then b

-- every byte of a call's file came
abbrev pub AllCame : Call → Type 0
AllCame c = (i : ℕ) → i < length c.file → arrived c.map i ≡ true

-- everything came, and what is lent suffices; the units are a number of 64 bits (rule 8.11)
pub record Suffices (c : Call) : Type 0 where
  pub came : AllCame c
  pub lent_fine : LentFine c
  pub units_fit : c.units ≤ most64
