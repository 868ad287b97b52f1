-- What a caller may lend before it knows the picture: the work limit covers what patchy reading charges, and buffers as long as the limits
-- allow are long enough.
use Prim.Native.Nat.{ℕ, zero, suc, ◌+◌, ◌*◌, ◌<◌, ◌≤◌}
use mathlib.Core.Path.{◌≡◌, refl}
use mathlib.Core.Bool.{Bool, true, false}
use native.Mathlib.Omega.{arith}
use native.Mathlib.Nat.{mul-le-mul_right}
use lib.Dec.{eqb}
use lib.ListN.{length}
use Rattle.lists.specs.Lists.{pick}
use Rattle.checks.specs.Numbers.{number_of, truncated, Verdict, no_refusal}
use Rattle.checks.specs.Checks.{verdict}
use Rattle.checks.proofs.Exact.{fine}
use Rattle.seen.specs.Seen.{Seen}
use Rattle.header.specs.Header.{big_endian, first_of}
use Rattle.directory.specs.Directory.{entries_at, slots_at}
use Rattle.tiff.specs.Walk.{page_at}
use Rattle.picture.specs.declared.Format.{Format}
use Rattle.picture.specs.Picture.{scratch_of}
use Rattle.plan.specs.Plan.{place_checks, stored_of, fee_of}
use Rattle.logluv_segment.specs.Segment.{stored_checks}
use Rattle.work_limit.specs.WorkLimit.{work_bound}
use Rattle.quality.specs.Quality.{judged, charge_is, quality_is, segment_charge}
use Rattle.quality.specs.declared.Quality.TheVariants as QualityIs
use Rattle.admission.specs.Admission.{charges_of}
use Rattle.promises.specs.Strict.{PageFine, Largest}
use Rattle.promises.specs.Patchy.{Call, view, page_format, reading_charge, ReadFine}
use Rattle.promises.proofs.Segments.{place_fine}
use Rattle.promises.proofs.Strict.{page_valid}
use Rattle.promises.proofs.Bounds.{walk_bound, few_segments, scratch_largest}
use Rattle.promises.proofs.Upstream.{output_small}
use Rattle.std.specs.Prelude.{Ok, Err}

-- a segment is charged 1 or its fee, and its stored bytes then lie in the file
module _ (v : Seen) (f : Format) (maxInput maxOutput : ℕ) (small : v.size ≤ maxInput) (largest : Largest f (scratch_of f))
    (allowed : scratch_of f ≤ maxOutput) where
  abbrev most : ℕ
  most = maxInput + 2 * maxOutput + 1

  placed_fee : (k : ℕ) → k < f.segments → verdict (place_checks v f k) ≡ no_refusal → fee_of v f k ≤ most
  placed_fee k h e =
      let t = ((place_fine v f k).0 ((fine (place_checks v f k)).0 e)).1.1 in
      omega (arith, t.in_file, largest.none_more k h)

  segment_most : (k : ℕ) → k < f.segments → segment_charge v f k ≤ most
  unfolding quality_is
  segment_most k h = by (verdict (place_checks v f k)) (verdict (stored_checks v f k)) (placed_fee k h)
    where
      lost : (t : Bool) → charge_is (pick t QualityIs.Outside QualityIs.Missing) (fee_of v f k) ≤ maxInput + 2 * maxOutput + 1
      lost true = omega arith
      lost false = omega arith

      by : (place packets : Verdict) → (place ≡ no_refusal → fee_of v f k ≤ maxInput + 2 * maxOutput + 1)
          → charge_is (judged place packets (stored_of v f k)) (fee_of v f k) ≤ maxInput + 2 * maxOutput + 1
      by (Ok x) (Ok y) fee = fee refl
      by (Ok x) (Err n) fee = fee refl
      by (Err n) packets fee = lost (eqb (number_of n) (number_of truncated))

  segments_most : (n k : ℕ) → k + n ≤ f.segments → charges_of v f k n ≤ n * most
  unfolding charges_of
  segments_most zero k h = omega arith
  segments_most (suc n) k h = omega (arith, segment_most k (omega arith), segments_most n (suc k) (omega arith))

-- the bound on what inspection charges is one on what a reading charges, be its segments good or lost
pub reading_bound : (c : Call) → ReadFine c → reading_charge c ≤ work_bound c.page c.limits
unfolding work_bound
reading_bound c r =
    let v = view c in
    let f = page_format c in
    let l = c.limits in
    let at = page_at v (big_endian v) c.page (first_of v) in
    let each = l.max_input + 2 * l.max_output + 1 in
    omega (
      arith,
      walk_bound v (big_endian v) l.max_tags c.page (first_of v) (λ k a. (r.page_fine.directories.is_fine k a).few_entries),
      segments_most v f l.max_input l.max_output r.page_fine.input_allowed (scratch_largest f (page_valid v c.page l r.page_fine))
          r.scratch_allowed f.segments 0 (omega arith),
      mul-le-mul_right {m = f.segments} {n = l.max_segments} each
          (few_segments v (big_endian v) (entries_at v (big_endian v) at) (slots_at v (big_endian v) at) l r.page_fine.profile),
    )

-- output of max_output bytes and quality of max_segments hold whatever picture passes the limits; that scratch is within max_output the reading
-- tests before it looks at the buffers
module _ (c : Call) (p : PageFine (view c) c.page c.limits) where
  abbrev v : Seen
  v = view c

  abbrev at : ℕ
  at = page_at v (big_endian v) c.page (first_of v)

  pub output_enough : c.limits.max_output ≤ length c.output → (page_format c).output ≤ length c.output
  output_enough h = omega (arith, output_small v (big_endian v) (entries_at v (big_endian v) at) (slots_at v (big_endian v) at) c.limits p.profile)

  pub quality_enough : c.limits.max_segments ≤ length c.quality → (page_format c).segments ≤ length c.quality
  quality_enough h = omega (arith, few_segments v (big_endian v) (entries_at v (big_endian v) at) (slots_at v (big_endian v) at) c.limits p.profile)
