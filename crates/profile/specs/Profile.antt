-- The profile (rules 3.1 to 3.8): its eight steps as one list of checks, from the top to the bottom, over what is seen of a file, its byte order, the
-- slots of the page's directory and the limits; and the format of a picture that passes them.
use Rattle.std.specs.Prelude.{ℕ, zero, suc, ◌*◌, ◌%◌, List, [], ◌∷◌, ◌++◌, Bool, ◌&&◌, ◌||◌, get_or, ltb, leb, eqb, Result}
use Rattle.lists.specs.Lists.{pick, lesser}
use Rattle.head.specs.Heads.{Head, colour_head, mono_head, bytes_of, channels_of, photometric_of}
use Rattle.checks.specs.Numbers.{invalid, unsupported, limit}
use Rattle.checks.specs.Checks.{Check, must, verdict, giving}
use Rattle.seen.specs.Seen.{Seen, there}
use Rattle.tags.specs.Slots.{image_width, image_length, bits_per_sample, compression, photometric, fill_order, strip_offsets, orientation, samples_per_pixel, rows_per_strip, strip_byte_counts, planar_configuration, predictor, tile_width, tile_length, tile_offsets, tile_byte_counts, extra_samples, sample_format, defaults, entry_in, absent, present}
use Rattle.entries.specs.Values.{has_values, size_of, scalar_of, place_of, value_at}
use Rattle.geometry.specs.Geometry.{pieces, most_side}
use Rattle.header.specs.declared.Limits.{Limits}
use Rattle.picture.specs.declared.Format.{Format}
use Rattle.profile.specs.declared.Numbers.{Numbers}
use Rattle.profile.specs.declared.Shape.{Shape}
use Rattle.checks.specs.declared.Refusal.{Refusal}

-- an entry is present and has n values of type 3 or 4
unfoldable pub carries : Seen → Bool → ℕ → ℕ → Bool
carries v big e n = present e && has_values v big e n

-- the scalar slots: 0, 1, 3, 4, 5, 7, 8, 9, 11, 12, 13, 14, 17
unfoldable pub scalars : List ℕ
scalars =
    image_width ∷ image_length ∷ compression ∷ photometric ∷ fill_order ∷ orientation ∷ samples_per_pixel ∷
    rows_per_strip ∷ planar_configuration ∷ predictor ∷ tile_width ∷ tile_length ∷ extra_samples ∷ []

-- Step 1 (rule 3.1): each scalar slot, from the lowest to the highest, is absent, which stands for its default, or holds one value of type 3 or 4.
-- Refused with 2.
module _ (v : Seen) (big : Bool) (slots : List ℕ) where
  unfoldable pub scalar_fine : ℕ → Bool
  scalar_fine k = absent (entry_in slots k) || has_values v big (entry_in slots k) 1

  unfoldable pub scalar_checks : List ℕ → List Check
  scalar_checks [] = []
  scalar_checks (k ∷ ks) = must (scalar_fine k) invalid ∷ scalar_checks ks

  abbrev pub step1 : List Check
  step1 = scalar_checks scalars

  -- the number of a slot, and those of the scalar slots by name
  unfoldable pub slot_number : ℕ → ℕ
  slot_number k = pick (absent (entry_in slots k)) (get_or defaults k 0) (scalar_of v big (entry_in slots k))

  unfoldable pub numbers_of : Numbers
  numbers_of = record {
    width = slot_number image_width;
    height = slot_number image_length;
    compression = slot_number compression;
    photometric = slot_number photometric;
    fill_order = slot_number fill_order;
    orientation = slot_number orientation;
    samples = slot_number samples_per_pixel;
    strip_rows = slot_number rows_per_strip;
    planar = slot_number planar_configuration;
    predictor = slot_number predictor;
    tile_width = slot_number tile_width;
    tile_height = slot_number tile_length;
  }

-- Step 2 (rule 3.2): the picture has sides, which max_dimension allows, its compression is SGILog, and slots 4 and 8 are together those of a head.
-- Refused with 3.
abbrev pub kind_is : Numbers → Head → Bool
kind_is n head = eqb n.photometric (photometric_of head) && eqb n.samples (channels_of head)

unfoldable pub has_head : Numbers → Bool
has_head n = kind_is n colour_head || kind_is n mono_head

unfoldable pub head_in : Numbers → Head
head_in n = kind_is n mono_head

unfoldable pub step2 : Numbers → ℕ → List Check
step2 n maxDimension =
    must (ltb 0 n.width) unsupported ∷
    must (leb n.width maxDimension) unsupported ∷
    must (ltb 0 n.height) unsupported ∷
    must (leb n.height maxDimension) unsupported ∷
    must (eqb n.compression 34676) unsupported ∷
    must (has_head n) unsupported ∷ []

-- Step 3 (rule 3.3): fill order, orientation, planar configuration and predictor are the usual ones, and there are no extra samples. Refused with 3.
unfoldable pub step3 : Numbers → ℕ → List Check
step3 n extra =
    must (eqb n.fill_order 1) unsupported ∷
    must (eqb n.orientation 1) unsupported ∷
    must (eqb n.planar 1) unsupported ∷
    must (eqb n.predictor 1) unsupported ∷
    must (absent extra) unsupported ∷ []

-- Step 4 (rule 3.4): the samples of a pixel have 16 bits each, and then format 2 each. Values of another type or number are refused with 3; a value is
-- looked for in the file (1), among what came (8), and held to the number wanted (3), before the next.
module _ (v : Seen) (big : Bool) where
  -- n values of an entry from value i on are there, and this number
  unfoldable pub each_is : ℕ → ℕ → ℕ → ℕ → List Check
  each_is e wanted i zero = []
  each_is e wanted i (suc n) =
      there v (place_of v big e i) (size_of v big e) ++
      (must (eqb (value_at v big e i) wanted) unsupported ∷ each_is e wanted (suc i) n)

  unfoldable pub sample_checks : ℕ → ℕ → ℕ → List Check
  sample_checks samples e wanted = must (carries v big e samples) unsupported ∷ each_is e wanted 0 samples

  unfoldable pub step4 : ℕ → List ℕ → List Check
  step4 samples slots = sample_checks samples (entry_in slots bits_per_sample) 16 ++ sample_checks samples (entry_in slots sample_format) 2

-- Step 5 (rule 3.5): where there are tile offsets a block has the tile's sides; else it is a strip, as wide as the picture and as high as the rows of a
-- strip, or as the picture where that is less. Each side is above 0 and at most 16384. Refused with 3.
unfoldable pub shape_of : Numbers → Bool → Shape
shape_of n tiled = record {
  width = n.width;
  height = n.height;
  block_width = pick tiled n.tile_width n.width;
  block_height = pick tiled n.tile_height (lesser n.strip_rows n.height);
  tiled = tiled;
  mono = head_in n;
}

abbrev pub shape_in : List ℕ → Numbers → Shape
shape_in slots n = shape_of n (present (entry_in slots tile_offsets))

unfoldable pub step5 : Shape → List Check
step5 s =
    must (ltb 0 s.block_width) unsupported ∷
    must (leb s.block_width most_side) unsupported ∷
    must (ltb 0 s.block_height) unsupported ∷
    must (leb s.block_height most_side) unsupported ∷ []

-- Step 6 (rule 3.6): tiles and strips do not mix: neither has an entry of the other's, and a tile's sides are multiples of 16. Refused with 2.
unfoldable pub step6 : Shape → List ℕ → List Check
step6 s slots = pick s.tiled
    (must (absent (entry_in slots strip_offsets)) invalid ∷
    must (absent (entry_in slots strip_byte_counts)) invalid ∷
    must (eqb (s.block_width % 16) 0) invalid ∷
    must (eqb (s.block_height % 16) 0) invalid ∷ [])
    (must (absent (entry_in slots tile_width)) invalid ∷
    must (absent (entry_in slots tile_length)) invalid ∷
    must (absent (entry_in slots tile_byte_counts)) invalid ∷ [])

-- Step 7 (rule 3.7): so many blocks across and down are the segments, and b bytes a pixel are the output; max_segments and max_output allow them.
-- Refused with 4. The numbers are exact, so one above 2^64-1 is above every limit.
abbrev pub across_of : Shape → ℕ
across_of s = pieces s.width s.block_width

abbrev pub segments_of : Shape → ℕ
segments_of s = across_of s * pieces s.height s.block_height

abbrev pub output_of : Shape → ℕ
output_of s = bytes_of s.mono * (s.width * s.height)

unfoldable pub step7 : Shape → ℕ → ℕ → List Check
step7 s maxSegments maxOutput =
    must (leb (segments_of s) maxSegments) limit ∷
    must (leb (output_of s) maxOutput) limit ∷ []

-- Step 8 (rule 3.8): there is an offset and a count for each segment, of type 3 or 4. Refused with 2.
abbrev pub offsets_in : List ℕ → Bool → ℕ
offsets_in slots tiled = pick tiled (entry_in slots tile_offsets) (entry_in slots strip_offsets)

abbrev pub counts_in : List ℕ → Bool → ℕ
counts_in slots tiled = pick tiled (entry_in slots tile_byte_counts) (entry_in slots strip_byte_counts)

unfoldable pub step8 : Seen → Bool → ℕ → ℕ → ℕ → List Check
step8 v big offsets counts segments =
    must (carries v big offsets segments) invalid ∷
    must (carries v big counts segments) invalid ∷ []

-- the eight steps, one after the other
module _ (v : Seen) (big : Bool) (slots : List ℕ) where
  abbrev numbers : Numbers
  numbers = numbers_of v big slots

  abbrev shape : Shape
  shape = shape_in slots numbers

  unfoldable pub profile_checks : Limits → List Check
  profile_checks l =
      step1 v big slots ++
      (step2 numbers l.max_dimension ++
      (step3 numbers (entry_in slots extra_samples) ++
      (step4 v big (channels_of (head_in numbers)) slots ++
      (step5 shape ++
      (step6 shape slots ++
      (step7 shape l.max_segments l.max_output ++
      step8 v big (offsets_in slots shape.tiled) (counts_in slots shape.tiled) (segments_of shape)))))))

-- the format of a shape, with the file's byte order, the number of the directory's entries, and the places of the two arrays' entries
unfoldable pub format_with : Bool → ℕ → List ℕ → Shape → Format
format_with big entries slots s = record {
  width = s.width;
  height = s.height;
  block_width = s.block_width;
  block_height = s.block_height;
  tiled = s.tiled;
  across = across_of s;
  segments = segments_of s;
  output = output_of s;
  big = big;
  offsets = offsets_in slots s.tiled;
  counts = counts_in slots s.tiled;
  entries = entries;
  mono = s.mono;
}

abbrev pub format_of : Seen → Bool → ℕ → List ℕ → Format
format_of v big entries slots = format_with big entries slots (shape_in slots (numbers_of v big slots))

-- the answer: the first refusal, or the format
abbrev pub profile_found : Seen → Bool → ℕ → List ℕ → Limits → Result Format Refusal
profile_found v big entries slots l = giving (verdict (profile_checks v big slots l)) (format_of v big entries slots)
