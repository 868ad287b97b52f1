-- The marked cases (rules 10.1 to 10.15) as one list: what the definitions give, beside what the rule says.
use Rattle.std.specs.Prelude.{ℕ, ◌/◌, ◌%◌, Bool, true, false, List, [], ◌∷◌, ◌++◌, length, take, drop, replicate}
use Rattle.lists.specs.Lists.{pick, tabulate}
use Rattle.head.specs.Heads.{Head, colour_head, mono_head}
use Rattle.checks.specs.Numbers.{verdict_number}
use Rattle.checks.specs.Checks.{verdict}
use Rattle.seen.specs.Seen.{Seen, seen}
use Rattle.tags.specs.Slots.{strip_offsets, rows_per_strip}
use Rattle.tags.specs.Tags.{none}
use Rattle.geometry.specs.Geometry.{rows_of, byte_segment, byte_local}
use Rattle.profile.specs.Profile.{slot_number, shape_of, across_of, segments_of, format_with}
use Rattle.profile.specs.declared.Numbers.{Numbers}
use Rattle.profile.specs.declared.Shape.{Shape}
use Rattle.packets.specs.Packets.{len_of, range_checks, expand}
use Rattle.pixel.specs.Luv.{uv, pixels}
use Rattle.geometry.specs.Costs.{needed_for, fee}
use Rattle.picture.specs.declared.Format.{Format}
use Rattle.picture.specs.Picture.{picture_of}
use Rattle.plan.specs.Plan.{count_of, fee_of}
use Rattle.quality.specs.Quality.{shows_of}
use Rattle.marking.specs.Marks.{codes_of}
use Rattle.float64.specs.Float64.{samples}
use Rattle.native_fp.specs.NativeFp.{gathered}

pub record Case : Type 0 where
  pub number : ℕ
  pub gives : List ℕ
  pub says : List ℕ

abbrev case : ℕ → List ℕ → List ℕ → Case
case n x y = record { number = n; gives = x; says = y }

-- the refusal number of packets that are to fill so many bytes at block width 2; 0: accepted
abbrev answer : ℕ → List ℕ → ℕ
answer needed packets = verdict_number (verdict (range_checks packets 0 (length packets) 2 needed))

-- one row of a head at block width 2: the answer, the pixels, the fee
abbrev case_shown : Head → List ℕ → List ℕ
case_shown head packets =
    (answer (needed_for head 2) packets ∷ []) ++ (pixels head 2 1 (expand packets 0) ++ (fee head (length packets) 2 ∷ []))

abbrev pub first : List ℕ
first = 0x80 ∷ 0x07 ∷ 0x80 ∷ 0x01 ∷ 0x80 ∷ 0x02 ∷ 0x80 ∷ 0x03 ∷ []

abbrev pub one_pixel : List ℕ
one_pixel = 0x01 ∷ 0x07 ∷ 0xC7 ∷ 0x00 ∷ 0x17 ∷ 0x01 ∷ []

-- two pixels of the monochrome head without light
abbrev pub no_light : List ℕ
no_light = 0x80 ∷ 0x00 ∷ 0x80 ∷ 0x00 ∷ []

-- the rows of each segment, in the segments' order
abbrev rows_of_each : Shape → List ℕ
rows_of_each s = tabulate (segments_of s) (rows_of s.tiled s.height s.block_height (across_of s))

abbrev sides : ℕ → ℕ → ℕ → ℕ → Numbers
sides width height rows side = record {
  width = width;
  height = height;
  compression = 34676;
  photometric = 32845;
  fill_order = 1;
  orientation = 1;
  samples = 3;
  strip_rows = rows;
  planar = 1;
  predictor = 1;
  tile_width = side;
  tile_height = side;
}

-- strips of a picture of this height and so many rows, and tiles of 16 by 16 of one of 17 by 5
abbrev strips : ℕ → ℕ → Shape
strips height rows = shape_of (sides 1 height rows 0) false

abbrev tiles : Shape
tiles = shape_of (sides 17 5 0 16) true

-- Two strips of one row of two pixels in a file of either byte order: behind eight bytes the entries of slots 6 and 10, at 8 and 20, with two offsets
-- and two counts of type 3; then the packets, at 32 and 40.
abbrev short : Bool → ℕ → List ℕ
short big n = pick big (n / 256 ∷ n % 256 ∷ []) (n % 256 ∷ n / 256 ∷ [])

abbrev two_shorts : Bool → ℕ → ℕ → ℕ → List ℕ
two_shorts big tag a b = short big tag ++ (short big 3 ++ (pick big (0 ∷ 0 ∷ 0 ∷ 2 ∷ []) (2 ∷ 0 ∷ 0 ∷ 0 ∷ []) ++ (short big a ++ short big b)))

abbrev second : List ℕ
second = 0x02 ∷ 0x01 ∷ 0x01 ∷ 0x80 ∷ 0x07 ∷ 0x80 ∷ 0x03 ∷ 0x80 ∷ 0x02 ∷ []

abbrev two_strips : Bool → Seen
two_strips big = seen (replicate 8 0 ++ (two_shorts big 273 32 40 ++ (two_shorts big 279 8 9 ++ (first ++ second)))) []

abbrev two_strips_format : Bool → Format
two_strips_format big = format_with big 2 (replicate strip_offsets 0 ++ (8 ∷ (replicate 3 0 ++ (20 ∷ [])))) (shape_of (sides 2 2 1 0) false)

-- the counts, the fees, the quality codes, the picture
abbrev two_strips_shown : Bool → List ℕ
two_strips_shown big =
    let v = two_strips big in
    let f = two_strips_format big in
    (count_of v f 0 ∷ count_of v f 1 ∷ fee_of v f 0 ∷ fee_of v f 1 ∷ []) ++ (codes_of v f ++ picture_of f (shows_of v f))

abbrev two_strips_say : List ℕ
two_strips_say =
    (8 ∷ 9 ∷ 49 ∷ 50 ∷ 1 ∷ 1 ∷ [])
    ++ (one_pixel ++ (one_pixel ++ (0x07 ∷ 0x01 ∷ 0x17 ∷ 0x01 ∷ 0xC7 ∷ 0x00 ∷ 0x07 ∷ 0x01 ∷ 0x17 ∷ 0x01 ∷ 0xC7 ∷ 0x00 ∷ [])))

unfoldable pub cases : List Case
cases =
    case 1 (case_shown colour_head first) ((0 ∷ []) ++ (one_pixel ++ (one_pixel ++ (49 ∷ []))))
    ∷ case 2 (case_shown colour_head (first ++ (0x00 ∷ []))) ((0 ∷ []) ++ (one_pixel ++ (one_pixel ++ (50 ∷ []))))
    ∷ case 3 (answer 8 (0x83 ∷ drop 1 first) ∷ []) (2 ∷ [])
    ∷ case 4 (answer 8 (take 6 first) ∷ answer 8 (take 7 first) ∷ []) (1 ∷ 1 ∷ [])
    ∷ case 5 (answer 8 (first ++ (0x01 ∷ 0x09 ∷ [])) ∷ []) (2 ∷ [])
    ∷ case 6 (answer 0 [] ∷ answer 1 [] ∷ []) (0 ∷ 1 ∷ [])
    ∷ case 7 (len_of 127 ∷ len_of 128 ∷ len_of 255 ∷ []) (127 ∷ 2 ∷ 129 ∷ [])
    ∷ case 8 (uv 0 ∷ uv 1 ∷ uv 255 ∷ []) (39 ∷ 119 ∷ 20420 ∷ [])
    ∷ case 9 (rows_of_each (strips 5 2) ++ rows_of_each (strips 5 (slot_number (seen [] []) false none rows_per_strip))) (2 ∷ 2 ∷ 1 ∷ 5 ∷ [])
    ∷ case 10 (rows_of_each tiles ++ (byte_segment 6 17 16 16 (across_of tiles) 98 ∷ byte_local 6 17 16 16 98 ∷ [])) (16 ∷ 16 ∷ 1 ∷ 2 ∷ [])
    ∷ case 11 (drop 8 (samples true true 2 1 1 2 (replicate 8 0xFF ++ (2 ∷ replicate 7 0)))) (1 ∷ replicate 7 0)
    ∷ case 12 (gathered 4 1 2 true (1 ∷ 1 ∷ 1 ∷ 1 ∷ [])) (3 ∷ 1 ∷ 4 ∷ 2 ∷ [])
    ∷ case 13 (two_strips_shown false ++ two_strips_shown true) (two_strips_say ++ two_strips_say)
    ∷ case 14 (case_shown mono_head (take 4 first)) (0 ∷ 0x01 ∷ 0x07 ∷ 0x01 ∷ 0x07 ∷ 21 ∷ [])
    ∷ case 15 (case_shown mono_head no_light) ((0 ∷ []) ++ (replicate 4 0 ++ (21 ∷ [])))
    ∷ []
