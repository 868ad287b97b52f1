-- Pictures that are accepted, so that acceptance is not empty: for each head the least file around two pixels in one strip, those of marked case 1 for
-- colour and two without light, of marked case 15, for the monochrome head; under limits, units and buffers that just suffice, read strictly in one
-- call and with a delivery map.
use Rattle.std.specs.Prelude.{ℕ, ◌+◌, ◌*◌, ◌/◌, ◌%◌, ◌≡◌, true, false, List, [], ◌∷◌, ◌++◌, length, replicate}
use Rattle.head.specs.Heads.{Head, bytes_of, channels_of, photometric_of}
use Rattle.geometry.specs.Costs.{scratch_for, fee}
use Rattle.header.specs.declared.Limits.{Limits}
use Rattle.handle.specs.Handle.{inspected_number}
use Rattle.patchy.specs.Patchy.{reading_number, reading_values}
use Rattle.promises.specs.Marked.{first, one_pixel, no_light}
use Rattle.promises.specs.StrictCall.{StrictCall}
use Rattle.promises.specs.StrictCall as strict
use Rattle.patchy.specs.declared.Sizes.{Sizes}
use Rattle.promises.specs.Patchy.{Call, Answered, MarkedGood, PixelOf, segment_here, Blank}
use Rattle.promises.specs.Patchy as patchy

-- an entry of a directory, with the low byte first: tag, type, count, and a value or an offset below 2^16
abbrev entry : ℕ → ℕ → ℕ → ℕ → List ℕ
entry tag kind count value = tag % 256 ∷ tag / 256 ∷ kind ∷ 0 ∷ count ∷ 0 ∷ 0 ∷ 0 ∷ value % 256 ∷ value / 256 ∷ 0 ∷ 0 ∷ []

abbrev three : ℕ → List ℕ
three n = n ∷ 0 ∷ n ∷ 0 ∷ n ∷ 0 ∷ []

-- behind the directory three values of 16 at 122 and three of 2 at 128; a single value is in the field
abbrev arrays : Head → List ℕ
arrays false = three 16 ++ three 2
arrays true = []

abbrev field : Head → ℕ → ℕ → ℕ
field false place value = place
field true place value = value

-- the strip, and the two pixels that it stands for
abbrev strip : Head → List ℕ
strip false = first
strip true = no_light

abbrev pub two_pixels : Head → List ℕ
two_pixels false = one_pixel ++ one_pixel
two_pixels true = replicate 4 0

module _ (head : Head) where
  -- the header; the directory at 8, of nine entries and no next one; the arrays; the strip
  unfoldable pub least_file : List ℕ
  least_file =
      (0x49 ∷ 0x49 ∷ 0x2A ∷ 0x00 ∷ 8 ∷ 0 ∷ 0 ∷ 0 ∷ [])
      ++ ((9 ∷ 0 ∷ [])
      ++ (entry 256 3 1 2
      ++ (entry 257 3 1 1
      ++ (entry 258 3 (channels_of head) (field head 122 16)
      ++ (entry 259 3 1 34676
      ++ (entry 262 3 1 (photometric_of head)
      ++ (entry 273 4 1 (122 + length (arrays head))
      ++ (entry 277 3 1 (channels_of head)
      ++ (entry 279 4 1 (length (strip head))
      ++ (entry 339 3 (channels_of head) (field head 128 2)
      ++ (replicate 4 0
      ++ (arrays head
      ++ strip head))))))))))))

  -- the limits: the file's length, and the scratch of an area of 2, which is more than the picture
  abbrev pub least_limits : Limits
  least_limits = record {
    max_input = 122 + length (arrays head) + length (strip head);
    max_output = scratch_for head 2;
    max_dimension = 2;
    max_directories = 1;
    max_tags = 9;
    max_segments = 1;
  }

  -- units for nine entries and one more, 128, and the fee once or twice
  abbrev pub units_for : ℕ → ℕ
  units_for fees = 138 + fees * fee head (length (strip head)) 2

  -- buffers with one byte more than they need
  abbrev pub lent_output : List ℕ
  lent_output = replicate (bytes_of head * 2 + 1) 0xAA

  abbrev pub lent_scratch : List ℕ
  lent_scratch = replicate (scratch_for head 2 + 1) 0xAA

  abbrev pub strictly : StrictCall
  strictly = record { file = least_file; page = 0; limits = least_limits; units = units_for 2; output = lent_output; scratch = lent_scratch }

  -- its number, the units left, and the two buffers afterwards
  abbrev pub strict_outcome : List ℕ
  strict_outcome = (inspected_number (strict.answer strictly) ∷ strict.left strictly ∷ []) ++ (strict.output_then strictly ++ strict.scratch_then strictly)

  -- all of its one block came, and the fee is charged once
  abbrev pub with_map : Call
  with_map = record {
    file = least_file;
    map = 1 ∷ [];
    page = 0;
    limits = least_limits;
    units = units_for 1;
    output = lent_output;
    scratch = lent_scratch;
    quality = replicate 2 0xAA;
  }

  -- its number, the units left, its six values, and the three buffers afterwards
  abbrev pub patchy_outcome : List ℕ
  patchy_outcome =
      (reading_number (patchy.answer with_map) ∷ patchy.left with_map ∷ [])
      ++ (reading_values (patchy.answer with_map)
      ++ (patchy.output_then with_map ++ (patchy.scratch_then with_map ++ patchy.quality_then with_map)))

  -- both pixels and the byte after them as it was; scratch zero and the byte after it as it was
  abbrev pub buffers_say : List ℕ
  buffers_say = two_pixels head ++ (0xAA ∷ (replicate (scratch_for head 2) 0 ++ (0xAA ∷ [])))

-- An answered reading in which a pixel of the monochrome head is good and shows zeros alone, as one that did not come does: its quality byte alone
-- tells (rule 6.7).
pub record GoodAndBlank : Type 0 where
  pub call : Call
  pub sizes : Sizes
  pub units : ℕ
  pub answered : Answered call sizes units
  pub mono : sizes.channels ≡ 1
  pub pixel_of : PixelOf call sizes 0 0
  pub good : MarkedGood call (segment_here call sizes 0 0)
  pub blank : Blank call sizes 0 0
