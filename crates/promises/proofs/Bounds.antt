-- Upstream's bound covers what an inspection charges, and the scratch of a handle is the largest that a segment needs.
use Prim.Native.Nat.{ℕ, zero, suc, ◌+◌, ◌*◌, ◌<◌, ◌≤◌}
use mathlib.Core.Path.{◌≡◌, refl, sym}
use mathlib.Core.List.{List}
use mathlib.Core.Bool.{Bool, true, false, not}
use native.Mathlib.Omega.{arith}
use native.Mathlib.Nat.{mul-le-mul_left, mul-le-mul_right, zero-div}
use borrow.Author.Tests.{eqb-true, eqb-false}
use Rattle.head.specs.Heads.{planes_of, bytes_of}
use Rattle.checks.specs.Sizes.{within}
use Rattle.checks.proofs.Sizes.{fits_is}
use Rattle.seen.specs.Seen.{Seen}
use Rattle.header.specs.Header.{big_endian, first_of}
use Rattle.directory.specs.Directory.{entries_at, next_at, slots_at}
use Rattle.tiff.specs.Walk.{page_at}
use Rattle.header.specs.declared.Limits.{Limits}
use Rattle.geometry.proofs.Cutting.{rows_tiled, rows_full, rows_le}
use Rattle.tags.specs.Slots.{tile_offsets, entry_in, absent}
use Rattle.profile.specs.Profile.{numbers_of, shape_of, format_with, format_of}
use Rattle.front.specs.Front.{format_seen}
use Rattle.picture.specs.Inner.{Valid}
use Rattle.picture.specs.declared.Format.{Format}
use Rattle.tiff.specs.Accepted.{walk_fee}
use Rattle.profile.specs.Accepted.{ProfileFine}
use Rattle.picture.specs.Picture.{rows_in, scratch_of}
use Rattle.plan.specs.Plan.{fee_of}
use Rattle.logluv_segment.specs.Segment.{fees_of}
use Rattle.work_limit.specs.WorkLimit.{work_bound}
use Rattle.handle.specs.declared.Handle.{Handle}
use Rattle.promises.specs.Strict.{SegmentFine, PictureFine, inspection_charge, Inspects, Largest}
use Rattle.promises.proofs.Strict.{page_valid}
use Rattle.std.specs.Prelude.{Some}

-- each directory up to the page has at most so many entries
pub walk_bound : (v : Seen) (b : Bool) (maxTags page first : ℕ) → ((i : ℕ) → i ≤ page → entries_at v b (page_at v b i first) ≤ maxTags)
    → walk_fee v b page first ≤ (page + 1) * (maxTags + 1)
unfolding walk_fee page_at
walk_bound v b maxTags zero first few = omega (arith, few 0 (omega arith))
walk_bound v b maxTags (suc page) first few =
    omega (arith, few 0 (omega arith), walk_bound v b maxTags page (next_at v b first) (λ i l. few (suc i) (omega arith)))

-- no fee is above the file's size, twice the output's limit and one more
module _ (v : Seen) (f : Format) (maxInput maxOutput : ℕ) (small : v.size ≤ maxInput) where
  pub fee_bound : (k : ℕ) → SegmentFine v f maxOutput k → fee_of v f k ≤ maxInput + 2 * maxOutput + 1
  fee_bound k s = omega (arith, s.good.range_is_there.in_file, s.room_allowed)

  fees_bound : (n k : ℕ) → ((j : ℕ) → k ≤ j → j < k + n → SegmentFine v f maxOutput j) → fees_of v f k n ≤ n * (maxInput + 2 * maxOutput + 1)
  unfolding fees_of
  fees_bound zero k fine = omega arith
  fees_bound (suc n) k fine =
      omega (arith, fee_bound k (fine k (omega arith) (omega arith)), fees_bound n (suc k) (λ j a b. fine j (omega arith) (omega arith)))

-- the profile allows no more segments
pub few_segments : (v : Seen) (b : Bool) (entries : ℕ) (slots : List ℕ) (l : Limits) → ProfileFine v b slots l
    → (format_of v b entries slots).segments ≤ l.max_segments
unfolding format_with shape_of
few_segments v b entries slots l p = by (absent (entry_in slots tile_offsets)) refl
  where
    by : (t : Bool) → absent (entry_in slots tile_offsets) ≡ t
        → (format_with b entries slots (shape_of (numbers_of v b slots) (not t))).segments ≤ l.max_segments
    by true e = (p.strips (eqb-true (entry_in slots tile_offsets) 0 e)).blocks.segments_allowed
    by false e = (p.tiles (eqb-false (entry_in slots tile_offsets) 0 e)).blocks.segments_allowed

-- the three parts of the bound, each above its part of the charge
pub bound_covers : (v : Seen) (page : ℕ) (l : Limits) → PictureFine v page l → inspection_charge v page ≤ work_bound page l
unfolding work_bound
bound_covers v page l p =
    let f = format_seen v page in
    let at = page_at v (big_endian v) page (first_of v) in
    let each = l.max_input + 2 * l.max_output + 1 in
    omega (
      arith,
      walk_bound v (big_endian v) l.max_tags page (first_of v) (λ k a. (p.page_fine.directories.is_fine k a).few_entries),
      fees_bound v f l.max_input l.max_output p.page_fine.input_allowed f.segments 0 (λ k a b. p.each_segment k (omega arith)),
      mul-le-mul_right {m = f.segments} {n = l.max_segments} each
          (few_segments v (big_endian v) (entries_at v (big_endian v) at) (slots_at v (big_endian v) at) l p.page_fine.profile),
    )

-- so the work limit, where it answers, covers the charge
pub limit_covers : (v : Seen) (page : ℕ) (l : Limits) (n : ℕ) → within (work_bound page l) ≡ Some n → PictureFine v page l → inspection_charge v page ≤ n
limit_covers v page l n e p = omega (arith, bound_covers v page l p, (fits_is (work_bound page l) n refl e).is)

-- a picture's first segment has all rows of a block
first_rows : (f : Format) → Valid f → rows_in f 0 ≡ f.block_height
first_rows f ok = by f.tiled refl
  where
    by : (t : Bool) → f.tiled ≡ t → rows_in f 0 ≡ f.block_height
    by true e = sym (rows_tiled f.tiled f.height f.block_height f.across 0 e)
    by false e =
        sym (rows_full f.tiled f.height f.block_height f.across 0 e f.height (rw (zero-div f.across) (omega arith)) (ok.strip_height e))

pub scratch_largest : (f : Format) → Valid f → Largest f (scratch_of f)
scratch_largest f ok = record {
  none_more = λ k l.
      mul-le-mul_left (planes_of f.mono + bytes_of f.mono)
      (mul-le-mul_left f.block_width (rows_le f.tiled f.height f.block_height f.across k));
  some_segment = omega (arith, ok.segments_are, ok.across_is);
  first_all = rw (first_rows f ok);
}

-- and so is that of each handle
pub scratch_given : (v : Seen) (page : ℕ) (l : Limits) (u w : ℕ) (h : Handle) → Inspects v page l u w h → Largest h.format h.scratch
scratch_given v page l u w h i = rw i.handle_is (scratch_largest (format_seen v page) (page_valid v page l i.fine.page_fine))
