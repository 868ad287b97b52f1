-- The nineteen slots by their TIFF names, each with its tag and its default (rule 2.10). A directory's slots are a list of places: that of the entry
-- with the slot's tag, 0 where the tag is absent, as no entry lies at 0.
use Rattle.std.specs.Prelude.{ℕ, List, [], ◌∷◌, map, Bool, not, get_or, eqb}

abbrev pub image_width : ℕ
image_width = 0

abbrev pub image_length : ℕ
image_length = 1

abbrev pub bits_per_sample : ℕ
bits_per_sample = 2

abbrev pub compression : ℕ
compression = 3

abbrev pub photometric : ℕ
photometric = 4

abbrev pub fill_order : ℕ
fill_order = 5

abbrev pub strip_offsets : ℕ
strip_offsets = 6

abbrev pub orientation : ℕ
orientation = 7

abbrev pub samples_per_pixel : ℕ
samples_per_pixel = 8

abbrev pub rows_per_strip : ℕ
rows_per_strip = 9

abbrev pub strip_byte_counts : ℕ
strip_byte_counts = 10

abbrev pub planar_configuration : ℕ
planar_configuration = 11

abbrev pub predictor : ℕ
predictor = 12

abbrev pub tile_width : ℕ
tile_width = 13

abbrev pub tile_length : ℕ
tile_length = 14

abbrev pub tile_offsets : ℕ
tile_offsets = 15

abbrev pub tile_byte_counts : ℕ
tile_byte_counts = 16

abbrev pub extra_samples : ℕ
extra_samples = 17

abbrev pub sample_format : ℕ
sample_format = 18

-- the number that the profile takes where the tag is absent is the slot's default
pub record Slot : Type 0 where
  pub slot : ℕ
  pub tag : ℕ
  pub default : ℕ

abbrev row : ℕ → ℕ → ℕ → Slot
row k t d = record { slot = k; tag = t; default = d }

abbrev pub slot_table : List Slot
slot_table =
    row image_width 256 0 ∷
    row image_length 257 0 ∷
    row bits_per_sample 258 0 ∷
    row compression 259 1 ∷
    row photometric 262 0 ∷
    row fill_order 266 1 ∷
    row strip_offsets 273 0 ∷
    row orientation 274 1 ∷
    row samples_per_pixel 277 1 ∷
    row rows_per_strip 278 4294967295 ∷
    row strip_byte_counts 279 0 ∷
    row planar_configuration 284 1 ∷
    row predictor 317 1 ∷
    row tile_width 322 0 ∷
    row tile_length 323 0 ∷
    row tile_offsets 324 0 ∷
    row tile_byte_counts 325 0 ∷
    row extra_samples 338 0 ∷
    row sample_format 339 0 ∷ []

-- the tags of slots 0 to 18, and their defaults
unfoldable pub known : List ℕ
known = map (λ (s : Slot). s.tag) slot_table

unfoldable pub defaults : List ℕ
defaults = map (λ (s : Slot). s.default) slot_table

-- the entry of a slot, and whether there is one
abbrev pub entry_in : List ℕ → ℕ → ℕ
entry_in slots k = get_or slots k 0

abbrev pub absent : ℕ → Bool
absent e = eqb e 0

abbrev pub present : ℕ → Bool
present e = not (absent e)
