-- The profile (rules 3.1 to 3.8) without order: what is true of a page exactly if every check of the eight steps holds.
use Rattle.std.specs.Prelude.{ℕ, ◌*◌, ◌%◌, ◌<◌, ◌≤◌, ◌≡◌, ◌⊎◌, List, Bool, get_or}
use Rattle.lists.specs.Lists.{lesser}
use Rattle.head.specs.Heads.{bytes_of, channels_of, photometric_of}
use Rattle.seen.specs.Seen.{Seen, There}
use Rattle.tags.specs.Slots.{bits_per_sample, strip_offsets, strip_byte_counts, tile_width, tile_length, tile_offsets, tile_byte_counts, extra_samples, sample_format, entry_in}
use Rattle.tags.specs.Tags.{type_at}
use Rattle.entries.specs.Values.{count_at, size_of, place_of, value_at}
use Rattle.geometry.specs.Geometry.{pieces, most_side}
use Rattle.header.specs.declared.Limits.{Limits}
use Rattle.profile.specs.Profile.{scalars, numbers_of, head_in}
use Rattle.profile.specs.declared.Numbers.{Numbers}

module _ (v : Seen) (big : Bool) where
  -- an entry is present and has n values of type 3 or 4
  pub record Carries (e n : ℕ) : Type 0 where
    pub present : 0 < e
    pub typed : (type_at v big e ≡ 3) ⊎ (type_at v big e ≡ 4)
    pub as_many : count_at v big e ≡ n

  -- a value for each sample, each of them there and this number
  pub record SamplesFine (samples e wanted : ℕ) : Type 0 where
    pub as_many : Carries e samples
    pub each_there : (i : ℕ) → i < samples → There v (place_of v big e i) (size_of v big e)
    pub each_is : (i : ℕ) → i < samples → value_at v big e i ≡ wanted

-- the picture's sides, and the kind of its samples
pub record KindFine (n : Numbers) (maxDimension : ℕ) : Type 0 where
  pub some_width : 0 < n.width
  pub width_allowed : n.width ≤ maxDimension
  pub some_height : 0 < n.height
  pub height_allowed : n.height ≤ maxDimension
  pub compression_is : n.compression ≡ 34676
  pub photometric_is : n.photometric ≡ photometric_of (head_in n)
  pub samples_is : n.samples ≡ channels_of (head_in n)

-- nothing out of the ordinary, and no entry for extra samples
pub record PlainFine (n : Numbers) (extra : ℕ) : Type 0 where
  pub fill_order_is : n.fill_order ≡ 1
  pub orientation_is : n.orientation ≡ 1
  pub planar_is : n.planar ≡ 1
  pub predictor_is : n.predictor ≡ 1
  pub no_extra : extra ≡ 0

module _ (v : Seen) (big : Bool) (n : Numbers) (l : Limits) where
  -- blocks of these sides, with an offset and a count for each segment in these two entries
  pub record BlocksFine (bw bh offsets counts : ℕ) : Type 0 where
    pub some_width : 0 < bw
    pub width_allowed : bw ≤ most_side
    pub some_height : 0 < bh
    pub height_allowed : bh ≤ most_side
    pub segments_allowed : pieces n.width bw * pieces n.height bh ≤ l.max_segments
    pub an_offset_each : Carries v big offsets (pieces n.width bw * pieces n.height bh)
    pub a_count_each : Carries v big counts (pieces n.width bw * pieces n.height bh)

  pub record TilesFine (slots : List ℕ) : Type 0 where
    pub no_strip_offsets : entry_in slots strip_offsets ≡ 0
    pub no_strip_counts : entry_in slots strip_byte_counts ≡ 0
    pub width_by_16 : n.tile_width % 16 ≡ 0
    pub height_by_16 : n.tile_height % 16 ≡ 0
    pub blocks : BlocksFine n.tile_width n.tile_height (entry_in slots tile_offsets) (entry_in slots tile_byte_counts)

  pub record StripsFine (slots : List ℕ) : Type 0 where
    pub no_tile_width : entry_in slots tile_width ≡ 0
    pub no_tile_length : entry_in slots tile_length ≡ 0
    pub no_tile_counts : entry_in slots tile_byte_counts ≡ 0
    pub blocks : BlocksFine n.width (lesser n.strip_rows n.height) (entry_in slots strip_offsets) (entry_in slots strip_byte_counts)

-- each scalar slot is absent or has one number, the head's samples are of 16 bits and of format 2, and there are tiles exactly if slot 15 is present
pub record ProfileFine (v : Seen) (big : Bool) (slots : List ℕ) (l : Limits) : Type 0 where
  pub one_number : (i : ℕ) → i < 13 → (entry_in slots (get_or scalars i 0) ≡ 0) ⊎ Carries v big (entry_in slots (get_or scalars i 0)) 1
  pub kind : KindFine (numbers_of v big slots) l.max_dimension
  pub plain : PlainFine (numbers_of v big slots) (entry_in slots extra_samples)
  pub bits : SamplesFine v big (channels_of (head_in (numbers_of v big slots))) (entry_in slots bits_per_sample) 16
  pub formats : SamplesFine v big (channels_of (head_in (numbers_of v big slots))) (entry_in slots sample_format) 2
  pub tiles : (entry_in slots tile_offsets ≡ 0 → ⊥) → TilesFine v big (numbers_of v big slots) l slots
  pub strips : entry_in slots tile_offsets ≡ 0 → StripsFine v big (numbers_of v big slots) l slots
  pub output_allowed : bytes_of (head_in (numbers_of v big slots)) * ((numbers_of v big slots).width * (numbers_of v big slots).height) ≤ l.max_output
