-- Values that stand in an entry's own field (rule 2.12): which these are, where each stands, and that they come with their directory. So no check of
-- them refuses with 1 or 8, and the quality codes 2 and 3 then speak of a segment's range alone.
use Rattle.std.specs.Prelude.{ℕ, ◌+◌, ◌<◌, ◌≤◌, ◌≡◌, ◌↔◌, ◌⊎◌, Bool, true, false, get_or}
use Rattle.checks.specs.Checks.{Holds}
use Rattle.seen.specs.Seen.{Seen, There, two, whole}
use Rattle.tags.specs.Tags.{type_at}
use Rattle.entries.specs.Values.{count_at, size_of, scalar_of, in_field, place_of, value_at}
use Rattle.header.specs.declared.Limits.{Limits}
use Rattle.front.specs.Front.{format_seen}
use Rattle.picture.specs.declared.Format.{Format}
use Rattle.plan.specs.Plan.{offset_of, count_of, offset_entry, count_entry}
use Rattle.patchy.specs.declared.Sizes.{Sizes}
use Rattle.promises.specs.Strict.{PageFine}
use Rattle.promises.specs.Patchy.{Call, view, page_format, quality_then, Answered}

-- of an entry: its values stand in its field; there are two of type 3
module _ (v : Seen) (big : Bool) (e : ℕ) where
  abbrev pub Inline : Type 0
  Inline = in_field v big e ≡ true

  abbrev pub TwoShorts : Type 0
  TwoShorts = (count_at v big e ≡ 2) × (type_at v big e ≡ 3)

-- of a picture: its offsets stand in the field of their entry; its counts do
module _ (v : Seen) (f : Format) where
  abbrev pub OffsetsInline : Type 0
  OffsetsInline = Inline v f.big f.offsets

  abbrev pub CountsInline : Type 0
  CountsInline = Inline v f.big f.counts

-- of a segment: its range does not lie in the file, or lies in it and did not all come
module _ (v : Seen) (f : Format) (k : ℕ) where
  abbrev pub RangeOutside : Type 0
  RangeOutside = v.size < offset_of v f k + count_of v f k

  abbrev pub RangeMissing : Type 0
  RangeMissing = (offset_of v f k + count_of v f k ≤ v.size) × (whole v.came (offset_of v f k) (count_of v f k) ≡ false)

pub record InlineValues : Type 0 where
  -- one value stands in the field, and so do two of type 3, but no others; the three of rule 3.4 never do
  pub which : (v : Seen) (big : Bool) (e : ℕ) → 0 < count_at v big e → Inline v big e ↔ ((count_at v big e ≡ 1) ⊎ TwoShorts v big e)
  pub three_never : (v : Seen) (big : Bool) (e : ℕ) → count_at v big e ≡ 3 → Inline v big e → ⊥
  -- a single one is read as a scalar slot is; of two the first is the field's first two bytes, the second its last two, in either byte order
  pub single : (v : Seen) (big : Bool) (e : ℕ) → count_at v big e ≡ 1 → value_at v big e 0 ≡ scalar_of v big e
  pub first_of_two : (v : Seen) (big : Bool) (e : ℕ) → TwoShorts v big e → value_at v big e 0 ≡ two big v (e + 8)
  pub second_of_two : (v : Seen) (big : Bool) (e : ℕ) → TwoShorts v big e → value_at v big e 1 ≡ two big v (e + 10)
  -- where the entry is there, so is each of its values
  pub come_along : (v : Seen) (big : Bool) (e : ℕ) → Inline v big e → There v e 12 → (i : ℕ) → i < count_at v big e
      → There v (place_of v big e i) (size_of v big e)
  -- so on a page that is fine, be it seen whole or under a map, the checks of an offset or a count in the field hold
  pub offset_given : (v : Seen) (page : ℕ) (l : Limits) → PageFine v page l → OffsetsInline v (format_seen v page)
      → (k : ℕ) → k < (format_seen v page).segments → Holds (offset_entry v (format_seen v page) k)
  pub count_given : (v : Seen) (page : ℕ) (l : Limits) → PageFine v page l → CountsInline v (format_seen v page)
      → (k : ℕ) → k < (format_seen v page).segments → Holds (count_entry v (format_seen v page) k)
  -- and in an answered reading where both are in the field, a segment has the code 3 exactly if its range lies outside the file, and 2 exactly if it
  -- lies in the file and did not all come
  pub code_3 : (c : Call) (s : Sizes) (w : ℕ) → Answered c s w → OffsetsInline (view c) (page_format c) → CountsInline (view c) (page_format c)
      → (k : ℕ) → k < s.segments → (get_or (quality_then c) k 0 ≡ 3) ↔ RangeOutside (view c) (page_format c) k
  pub code_2 : (c : Call) (s : Sizes) (w : ℕ) → Answered c s w → OffsetsInline (view c) (page_format c) → CountsInline (view c) (page_format c)
      → (k : ℕ) → k < s.segments → (get_or (quality_then c) k 0 ≡ 2) ↔ RangeMissing (view c) (page_format c) k
