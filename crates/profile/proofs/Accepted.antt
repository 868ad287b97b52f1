-- A page's profile passes its checks exactly if it is fine, and the format of a fine profile is valid.
use Prim.Native.Nat.{ℕ, ◌*◌, ◌%◌, ◌<◌, ◌≤◌}
use mathlib.Core.Path.{◌≡◌, refl}
use mathlib.Core.Logic.Iff
use mathlib.Core.Logic.{◌↔◌}
use mathlib.Core.List.{List, ◌++◌}
use mathlib.Core.Bool.{Bool, true, false, not, ◌&&◌, ◌||◌}
use lib.Dec.{eqb}
use native.Mathlib.Omega.{arith}
use borrow.Author.Tests.{lt-ltb, ltb-true, leb-true, eqb-true, eqb-false, le-leb, eq-eqb}
use Rattle.lists.proofs.Lesser.{lesser_min}
use Rattle.head.specs.Heads.{Head, colour_head, mono_head, bytes_of, channels_of, photometric_of}
use Rattle.checks.specs.Checks.{verdict, Holds}
use Rattle.checks.proofs.Exact.{fine, both}
use Rattle.geometry.specs.Geometry.{most_side}
use Rattle.seen.specs.Seen.{Seen}
use Rattle.seen.proofs.Blocks.{true_false}
use Rattle.tags.specs.Slots.{bits_per_sample, sample_format, strip_offsets, strip_byte_counts, tile_width, tile_length, tile_offsets, tile_byte_counts, extra_samples, entry_in, absent}
use Rattle.header.specs.declared.Limits.{Limits}
use Rattle.picture.specs.Inner.{Valid}
use Rattle.picture.specs.declared.Format.{Format}
use Rattle.profile.specs.Profile.{kind_is, has_head, head_in, step1, step2, step3, step4, step5, step6, step7, step8, numbers_of, shape_of, shape_in, segments_of, offsets_in, counts_in, profile_checks, format_with, format_of}
use Rattle.profile.specs.Accepted.{Carries, SamplesFine, KindFine, PlainFine, BlocksFine, TilesFine, StripsFine, ProfileFine}
use Rattle.profile.specs.Inner.{from7, from5, from2}
use Rattle.profile.specs.declared.Numbers.{Numbers}
use Rattle.profile.specs.declared.Shape.{Shape}
use Rattle.profile.proofs.Carried.{lists_fine, samples_fine, scalars_fine}
use Rattle.checks.specs.Numbers.{no_refusal}

-- the eight steps are step 1 and those from 2 on, these 2 to 4 and those from 5 on, and these 5 and 6 and those from 7 on
pub profile_split : (v : Seen) (big : Bool) (slots : List ℕ) (l : Limits)
    → profile_checks v big slots l ≡ step1 v big slots ++ from2 v big slots (numbers_of v big slots) l
unfolding profile_checks from2 from5 from7
profile_split v big slots l = refl

-- slots 4 and 8 are those of a head exactly if they are those of the head that they choose
record OfHead (n : Numbers) (head : Head) : Type 0 where
  photometric_is : n.photometric ≡ photometric_of head
  samples_is : n.samples ≡ channels_of head

kind_is_lem : (n : Numbers) (head : Head) → kind_is n head ≡ true → OfHead n head
kind_is_lem n head e = by (eqb n.photometric (photometric_of head)) (eqb n.samples (channels_of head)) refl refl e
  where
    by : (a b : Bool) → eqb n.photometric (photometric_of head) ≡ a → eqb n.samples (channels_of head) ≡ b → a && b ≡ true → OfHead n head
    by true true p q t = record { photometric_is = eqb-true n.photometric (photometric_of head) p; samples_is = eqb-true n.samples (channels_of head) q }
    by true false p q t = absurd (true_false t refl)
    by false b p q t = absurd (true_false t refl)

is_kind : (n : Numbers) (head : Head) → OfHead n head → kind_is n head ≡ true
is_kind n head h = rw (eq-eqb n.photometric (photometric_of head) h.photometric_is, eq-eqb n.samples (channels_of head) h.samples_is)

kind_chosen : (n : Numbers) → has_head n ≡ true → OfHead n (head_in n)
unfolding has_head head_in
kind_chosen n e = by (kind_is n colour_head) (kind_is n mono_head) refl refl e
  where
    by : (a b : Bool) → kind_is n colour_head ≡ a → kind_is n mono_head ≡ b → a || b ≡ true → OfHead n b
    by a true p q t = kind_is_lem n mono_head q
    by true false p q t = kind_is_lem n colour_head p
    by false false p q t = absurd (true_false t refl)

chosen_kind : (n : Numbers) → OfHead n (head_in n) → has_head n ≡ true
unfolding has_head
chosen_kind n h = by (head_in n) h (kind_is n colour_head) refl
  where
    by : (head : Head) → OfHead n head → (a : Bool) → kind_is n colour_head ≡ a → a || kind_is n mono_head ≡ true
    by head h true p = refl
    by true h false p = is_kind n mono_head h
    by false h false p = absurd (true_false (is_kind n colour_head h) p)

-- each step's list of checks and its record
kind_fine : (n : Numbers) (m : ℕ) → Holds (step2 n m) ↔ KindFine n m
unfolding Holds step2
kind_fine n m = (
  λ h. record {
    some_width = ltb-true 0 n.width h.0;
    width_allowed = leb-true n.width m h.1.0;
    some_height = ltb-true 0 n.height h.1.1.0;
    height_allowed = leb-true n.height m h.1.1.1.0;
    compression_is = eqb-true n.compression 34676 h.1.1.1.1.0;
    photometric_is = (kind_chosen n h.1.1.1.1.1.0).photometric_is;
    samples_is = (kind_chosen n h.1.1.1.1.1.0).samples_is;
  },
  λ f. (
    lt-ltb 0 n.width f.some_width,
    (
      le-leb n.width m f.width_allowed,
      (
        lt-ltb 0 n.height f.some_height,
        (
          le-leb n.height m f.height_allowed,
          (
            eq-eqb n.compression 34676 f.compression_is,
            (chosen_kind n (record { photometric_is = f.photometric_is; samples_is = f.samples_is }), tt),
          ),
        ),
      ),
    ),
  ),
)

plain_fine : (n : Numbers) (extra : ℕ) → Holds (step3 n extra) ↔ PlainFine n extra
unfolding Holds step3
plain_fine n extra = (
  λ h. record {
    fill_order_is = eqb-true n.fill_order 1 h.0;
    orientation_is = eqb-true n.orientation 1 h.1.0;
    planar_is = eqb-true n.planar 1 h.1.1.0;
    predictor_is = eqb-true n.predictor 1 h.1.1.1.0;
    no_extra = eqb-true extra 0 h.1.1.1.1.0;
  },
  λ f. (
    eq-eqb n.fill_order 1 f.fill_order_is,
    (
      eq-eqb n.orientation 1 f.orientation_is,
      (
        eq-eqb n.planar 1 f.planar_is,
        (
          eq-eqb n.predictor 1 f.predictor_is,
          (eq-eqb extra 0 f.no_extra, tt),
        ),
      ),
    ),
  ),
)

-- a block's sides, and the tags beside tiles or strips
abbrev Sides : Shape → Type 0
Sides s = (0 < s.block_width) × (s.block_width ≤ most_side) × (0 < s.block_height) × (s.block_height ≤ most_side)

sides_fine : (s : Shape) → Holds (step5 s) ↔ Sides s
unfolding Holds step5
sides_fine s =
    let bw = s.block_width in
    let bh = s.block_height in (
      λ h. (ltb-true 0 bw h.0, leb-true bw most_side h.1.0, ltb-true 0 bh h.1.1.0, leb-true bh most_side h.1.1.1.0),
      λ p. (lt-ltb 0 bw p.0, (le-leb bw most_side p.1, (lt-ltb 0 bh p.2, (le-leb bh most_side p.3, tt)))),
    )

module _ (n : Numbers) (slots : List ℕ) where
  abbrev TileTags : Type 0
  TileTags =
      (entry_in slots strip_offsets ≡ 0) × (entry_in slots strip_byte_counts ≡ 0) × (n.tile_width % 16 ≡ 0) × (n.tile_height % 16 ≡ 0)

  tile_tags : Holds (step6 (shape_of n true) slots) ↔ TileTags
  unfolding Holds step6 shape_of
  tile_tags =
      let offsets = entry_in slots strip_offsets in
      let counts = entry_in slots strip_byte_counts in
      let w = n.tile_width % 16 in
      let h = n.tile_height % 16 in (
        λ x. (eqb-true offsets 0 x.0, eqb-true counts 0 x.1.0, eqb-true w 0 x.1.1.0, eqb-true h 0 x.1.1.1.0),
        λ p. (eq-eqb offsets 0 p.0, (eq-eqb counts 0 p.1, (eq-eqb w 0 p.2, (eq-eqb h 0 p.3, tt)))),
      )

  abbrev StripTags : Type 0
  StripTags = (entry_in slots tile_width ≡ 0) × (entry_in slots tile_length ≡ 0) × (entry_in slots tile_byte_counts ≡ 0)

  strip_tags : Holds (step6 (shape_of n false) slots) ↔ StripTags
  unfolding Holds step6 shape_of
  strip_tags =
      let w = entry_in slots tile_width in
      let h = entry_in slots tile_length in
      let counts = entry_in slots tile_byte_counts in (
        λ x. (eqb-true w 0 x.0, eqb-true h 0 x.1.0, eqb-true counts 0 x.1.1.0),
        λ p. (eq-eqb w 0 p.0, (eq-eqb h 0 p.1, (eq-eqb counts 0 p.2, tt))),
      )

-- steps 5 to 8
module _ (v : Seen) (big : Bool) (slots : List ℕ) (n : Numbers) (l : Limits) where
  abbrev OutputAllowed : Type 0
  OutputAllowed = bytes_of (head_in n) * (n.width * n.height) ≤ l.max_output

  module _ (t : Bool) where
    abbrev s : Shape
    s = shape_of n t

    abbrev SizesAllowed : Type 0
    SizesAllowed = (segments_of s ≤ l.max_segments) × OutputAllowed

    sizes_fine : Holds (step7 s l.max_segments l.max_output) ↔ SizesAllowed
    unfolding Holds step7 shape_of
    sizes_fine = (
      λ h. (leb-true (segments_of s) l.max_segments h.0, leb-true (bytes_of (head_in n) * (n.width * n.height)) l.max_output h.1.0),
      λ p. (le-leb (segments_of s) l.max_segments p.0, (le-leb (bytes_of (head_in n) * (n.width * n.height)) l.max_output p.1, tt)),
    )

    abbrev Lists : Type 0
    Lists = Carries v big (offsets_in slots t) (segments_of s) × Carries v big (counts_in slots t) (segments_of s)

    segments_fine : Holds (from7 v big slots s l) ↔ (SizesAllowed × Lists)
    unfolding from7 shape_of
    segments_fine =
        let offsets = offsets_in slots t in
        let counts = counts_in slots t in
        both (step7 s l.max_segments l.max_output) (step8 v big offsets counts (segments_of s)) sizes_fine
        (lists_fine v big offsets counts (segments_of s))

    abbrev Blocks : Type 0
    Blocks = BlocksFine v big n l s.block_width s.block_height (offsets_in slots t) (counts_in slots t)

    blocks_are : Sides s → SizesAllowed × Lists → Blocks
    unfolding shape_of
    blocks_are p q = record {
      some_width = p.0;
      width_allowed = p.1;
      some_height = p.2;
      height_allowed = p.3;
      segments_allowed = q.0.0;
      an_offset_each = q.1.0;
      a_count_each = q.1.1;
    }

    are_blocks : Blocks → OutputAllowed → Sides s × (SizesAllowed × Lists)
    unfolding shape_of
    are_blocks f o = ((f.some_width, f.width_allowed, f.some_height, f.height_allowed), ((f.segments_allowed, o), (f.an_offset_each, f.a_count_each)))

    -- whatever the tags beside them say
    blocks_fine : {T : Type 0} → (Holds (step6 s slots) ↔ T) → Holds (from5 v big slots s l) ↔ (T × (Blocks × OutputAllowed))
    unfolding from5
    blocks_fine tags =
        Iff.trans (both (step5 s) (step6 s slots ++ from7 v big slots s l) (sides_fine s) (both (step6 s slots) (from7 v big slots s l) tags segments_fine)) (
          λ p. (p.1.0, (blocks_are p.0 p.1.1, p.1.1.0.1)),
          λ f. let p = are_blocks f.1.0 f.1.1 in (p.0, (f.0, p.1)),
        )

  tiles_fine : Holds (from5 v big slots (shape_of n true) l) ↔ (TilesFine v big n l slots × OutputAllowed)
  unfolding shape_of
  tiles_fine = Iff.trans (blocks_fine true (tile_tags n slots)) (
    λ p. (record { no_strip_offsets = p.0.0; no_strip_counts = p.0.1; width_by_16 = p.0.2; height_by_16 = p.0.3; blocks = p.1.0 }, p.1.1),
    λ f. ((f.0.no_strip_offsets, f.0.no_strip_counts, f.0.width_by_16, f.0.height_by_16), (f.0.blocks, f.1)),
  )

  strips_fine : Holds (from5 v big slots (shape_of n false) l) ↔ (StripsFine v big n l slots × OutputAllowed)
  unfolding shape_of
  strips_fine = Iff.trans (blocks_fine false (strip_tags n slots)) (
    λ p. (record { no_tile_width = p.0.0; no_tile_length = p.0.1; no_tile_counts = p.0.2; blocks = p.1.0 }, p.1.1),
    λ f. ((f.0.no_tile_width, f.0.no_tile_length, f.0.no_tile_counts), (f.0.blocks, f.1)),
  )

  -- tiles exactly if slot 15 is present
  record LayoutFine : Type 0 where
    as_tiles : (entry_in slots tile_offsets ≡ 0 → ⊥) → TilesFine v big n l slots
    as_strips : entry_in slots tile_offsets ≡ 0 → StripsFine v big n l slots
    allowed : OutputAllowed

  layout_is : (t : Bool) → absent (entry_in slots tile_offsets) ≡ t → Holds (from5 v big slots (shape_of n (not t)) l) → LayoutFine
  layout_is true e h =
      let f = strips_fine.0 h in
      record { as_tiles = λ z. absurd (z (eqb-true (entry_in slots tile_offsets) 0 e)); as_strips = λ z. f.0; allowed = f.1 }
  layout_is false e h =
      let f = tiles_fine.0 h in
      record { as_tiles = λ z. f.0; as_strips = λ z. absurd (eqb-false (entry_in slots tile_offsets) 0 e z); allowed = f.1 }

  layout_passes : (t : Bool) → absent (entry_in slots tile_offsets) ≡ t → LayoutFine → Holds (from5 v big slots (shape_of n (not t)) l)
  layout_passes true e f = strips_fine.1 (f.as_strips (eqb-true (entry_in slots tile_offsets) 0 e), f.allowed)
  layout_passes false e f = tiles_fine.1 (f.as_tiles (eqb-false (entry_in slots tile_offsets) 0 e), f.allowed)

  layout_fine : Holds (from5 v big slots (shape_in slots n) l) ↔ LayoutFine
  layout_fine = (layout_is (absent (entry_in slots tile_offsets)) refl, layout_passes (absent (entry_in slots tile_offsets)) refl)

  -- steps 2 to 8
  abbrev Samples : Type 0
  Samples =
      SamplesFine v big (channels_of (head_in n)) (entry_in slots bits_per_sample) 16 × SamplesFine v big (channels_of (head_in n)) (entry_in slots sample_format) 2

  rest_fine : Holds (from2 v big slots n l) ↔ (KindFine n l.max_dimension × (PlainFine n (entry_in slots extra_samples) × (Samples × LayoutFine)))
  unfolding from2
  rest_fine =
      let extra = entry_in slots extra_samples in
      let four = step4 v big (channels_of (head_in n)) slots in
      let five = from5 v big slots (shape_in slots n) l in
      both (step2 n l.max_dimension) (step3 n extra ++ (four ++ five)) (kind_fine n l.max_dimension)
      (both (step3 n extra) (four ++ five) (plain_fine n extra)
      (both four five (samples_fine v big (channels_of (head_in n)) slots) layout_fine))

-- the whole profile
module _ (v : Seen) (big : Bool) (slots : List ℕ) (l : Limits) where
  pub profile_holds : Holds (profile_checks v big slots l) ↔ ProfileFine v big slots l
  profile_holds =
      let n = numbers_of v big slots in
      rw (profile_split v big slots l) (Iff.trans (both (step1 v big slots) (from2 v big slots n l) (scalars_fine v big slots) (rest_fine v big slots n l)) (
        λ p. record {
          one_number = p.0;
          kind = p.1.0;
          plain = p.1.1.0;
          bits = p.1.1.1.0.0;
          formats = p.1.1.1.0.1;
          tiles = p.1.1.1.1.as_tiles;
          strips = p.1.1.1.1.as_strips;
          output_allowed = p.1.1.1.1.allowed;
        },
        λ f. (
          f.one_number,
          (f.kind, (f.plain, ((f.bits, f.formats), record { as_tiles = f.tiles; as_strips = f.strips; allowed = f.output_allowed }))),
        ),
      ))

  pub profile_fine : (verdict (profile_checks v big slots l) ≡ no_refusal) ↔ ProfileFine v big slots l
  profile_fine = Iff.trans (fine (profile_checks v big slots l)) profile_holds

-- and the format of a fine profile is valid
module _ (v : Seen) (b : Bool) (entries : ℕ) (slots : List ℕ) (l : Limits) (f : ProfileFine v b slots l) where
  abbrev format_as : Bool → Format
  format_as t = format_with b entries slots (shape_of (numbers_of v b slots) t)

  tiled_valid : TilesFine v b (numbers_of v b slots) l slots → Valid (format_as true)
  unfolding format_with shape_of
  tiled_valid t = record {
    some_width = f.kind.some_width;
    some_height = f.kind.some_height;
    strip_width = λ z. absurd (true_false refl z);
    strip_height = λ z. absurd (true_false refl z);
    some_block_width = t.blocks.some_width;
    block_width_allowed = t.blocks.width_allowed;
    some_block_height = t.blocks.some_height;
    block_height_allowed = t.blocks.height_allowed;
    across_is = refl;
    segments_are = refl;
    output_is = refl;
  }

  strip_valid : StripsFine v b (numbers_of v b slots) l slots → Valid (format_as false)
  unfolding format_with shape_of
  strip_valid s = record {
    some_width = f.kind.some_width;
    some_height = f.kind.some_height;
    strip_width = λ z. refl;
    strip_height = λ z. omega (arith, lesser_min (numbers_of v b slots).strip_rows (numbers_of v b slots).height);
    some_block_width = s.blocks.some_width;
    block_width_allowed = s.blocks.width_allowed;
    some_block_height = s.blocks.some_height;
    block_height_allowed = s.blocks.height_allowed;
    across_is = refl;
    segments_are = refl;
    output_is = refl;
  }

  pub valid : Valid (format_of v b entries slots)
  valid = by (absent (entry_in slots tile_offsets)) refl
    where
      by : (t : Bool) → absent (entry_in slots tile_offsets) ≡ t → Valid (format_as (not t))
      by true e = strip_valid (f.strips (eqb-true (entry_in slots tile_offsets) 0 e))
      by false e = tiled_valid (f.tiles (eqb-false (entry_in slots tile_offsets) 0 e))
