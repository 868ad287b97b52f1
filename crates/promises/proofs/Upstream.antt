-- Upstream's clauses on segments and inspection that follow from what is promised here by a short argument.
use Prim.Native.Nat.{ℕ, zero, suc, ◌+◌, ◌-◌, ◌*◌, ◌/◌, ◌≤◌}
use mathlib.Core.Path.{◌≡◌, refl, sym, ap, ◌∙◌}
use mathlib.Core.List.{List, ◌∷◌}
use mathlib.Core.Bool.{Bool, true, false}
use native.Mathlib.Omega.{arith}
use native.Mathlib.Nat.{div-one, div-eq_of_lt}
use borrow.Author.Tests.{leb-true}
use Rattle.lists.specs.Lists.{lesser}
use Rattle.checks.specs.Checks.{Check, run, verdict, Holds, cost}
use Rattle.checks.proofs.Exact.{accepted, fine, holds_then, cost_then, stops, run_refused, same_refused}
use Rattle.checks.proofs.Refusals.{refused}
use Rattle.checks.specs.Sizes.{most64}
use Rattle.seen.specs.Seen.{Seen}
use Rattle.geometry.specs.Geometry.{rows_of}
use Rattle.header.specs.declared.Limits.{Limits}
use Rattle.header.specs.Header.{big_endian}
use Rattle.front.specs.Front.{format_seen}
use Rattle.tags.specs.Slots.{tile_offsets, entry_in, present}
use Rattle.profile.specs.Profile.{numbers_of, shape_of, format_with, format_of}
use Rattle.geometry.specs.Costs.{scratch_for}
use Rattle.picture.specs.Inner.{Valid}
use Rattle.picture.specs.declared.Format.{Format}
use Rattle.profile.specs.Accepted.{ProfileFine}
use Rattle.picture.specs.Picture.{rows_in, area_of, scratch_of}
use Rattle.plan.specs.Plan.{fee_of, place_checks, area_checks, plan_checks}
use Rattle.logluv_segment.specs.Segment.{fee_checks, segment_checks, fees_of}
use Rattle.plan.proofs.Planning.{plan_free}
use Rattle.logluv_segment.proofs.Fees.{segment_cost}
use Rattle.inspection.specs.Inspection.{work_of, handle_of, inspected_of, is_handle}
use Rattle.work_limit.specs.WorkLimit.{work_bound}
use Rattle.handle.specs.declared.Handle.{Handle}
use Rattle.handle.specs.Handle.{inspected_with}
use Rattle.promises.specs.Upstream.{WellFormed}
use Rattle.promises.specs.Strict.{SegmentFine, PictureFine, inspection_charge, Inspects, Largest}
use Rattle.promises.proofs.Segments.{place_fine, segment_fine}
use Rattle.promises.proofs.Strict.{page_valid, inspection_exact, inspection_refused}
use Rattle.promises.proofs.Bounds.{fee_bound, bound_covers, scratch_given}
use Rattle.promises.proofs.Handles.{given_inspected, handle_exact}
use Rattle.checks.specs.Numbers.{Verdict, no_refusal, leaving}
use Rattle.std.specs.Prelude.{Ok, Err}
use Rattle.checks.specs.declared.Refusal.{Refusal}

-- of strips there is one across, so strip k begins at row k × block height
pub strip_rows : (f : Format) → Valid f → f.tiled ≡ false → (k : ℕ) → rows_in f k ≡ lesser (f.height - k * f.block_height) f.block_height
unfolding rows_of
strip_rows f ok strips k =
    let none : (f.width - 1) / f.block_width ≡ 0 = div-eq_of_lt (omega (arith, ok.some_width, ok.strip_width strips)) in
    let one : f.across ≡ 1 = omega (arith, ok.across_is) in
    rw (strips, one, div-one k)

-- the sum of fees as a prefix: that of the segments before, and the last one's
pub fees_more : (v : Seen) (f : Format) (n k : ℕ) → fees_of v f k (suc n) ≡ fees_of v f k n + fee_of v f (k + n)
unfolding fees_of
fees_more v f zero k = let z : k + 0 ≡ k = omega arith in rw z (omega arith)
fees_more v f (suc n) k = let z : k + suc n ≡ suc k + n = omega arith in rw z (omega (arith, fees_more v f n (suc k)))

-- no list of checks adds units
pub passed_less : (cs : List Check) (u w : ℕ) → run cs u ≡ Ok w → w ≤ u
passed_less cs u w e = omega (arith, ((accepted cs u w).0 e).rest)

pub refused_less : (cs : List Check) (u : ℕ) (e : Refusal) (w : ℕ) → run cs u ≡ Err (leaving e w) → w ≤ u
refused_less cs u e w q = omega (arith, ((refused cs u e w).0 q).rest)

-- one segment: what it charges is bounded, and with so many units a fine one passes
module _ (v : Seen) (f : Format) (maxInput maxOutput k : ℕ) (small : v.size ≤ maxInput) where
  pub segment_passes : (u : ℕ) → SegmentFine v f maxOutput k → maxInput + 2 * maxOutput + 1 ≤ u → run (segment_checks v f maxOutput k) u
      ≡ Ok (u - fee_of v f k)
  segment_passes u s enough =
      (accepted (segment_checks v f maxOutput k) u (u - fee_of v f k)).1
      (record {
        holds = (segment_fine v f maxOutput k).1 s;
        covered = omega
            (arith, segment_cost v f maxOutput k, fee_bound v f maxInput maxOutput small k s);
        rest = ap (λ (c : ℕ). u - c) (sym (segment_cost v f maxOutput k));
      })

  planned_fee : verdict (plan_checks v f maxOutput k) ≡ no_refusal → fee_of v f k ≤ maxInput + 2 * maxOutput + 1
  unfolding plan_checks area_checks Holds
  planned_fee e =
      let x = holds_then (place_checks v f k) (area_checks v f maxOutput k) ((fine (plan_checks v f maxOutput k)).0 e) in
      omega (arith, ((place_fine v f k).0 x.0).1.1.in_file, leb-true (scratch_for f.mono (area_of f k)) maxOutput x.1.0)

  -- and whatever it answers, it has charged no more than that
  pub segment_charges : (u : ℕ) (e : Refusal) (w : ℕ) → run (segment_checks v f maxOutput k) u ≡ Err (leaving e w) → u - w ≤ maxInput + 2 * maxOutput + 1
  unfolding segment_checks
  segment_charges u e w q = by (verdict (plan_checks v f maxOutput k)) refl
    where
      by : (t : Verdict) → verdict (plan_checks v f maxOutput k) ≡ t → u - w ≤ maxInput + 2 * maxOutput + 1
      by (Ok x) t =
          let r = (refused (segment_checks v f maxOutput k) u e w).0 q in
          let c : cost (segment_checks v f maxOutput k) ≡ cost r.before + cost (r.check ∷ r.after) = ap cost r.splits
          ∙ cost_then r.before (r.check ∷ r.after) in
          omega (arith, r.rest, r.covered, c, segment_cost v f maxOutput k, planned_fee t)
      by (Err n) t =
          let plan = plan_checks v f maxOutput k in
          let s = stops plan (fee_checks v f k) u (leaving n u) (run_refused plan u n (plan_free v f maxOutput k) t) in
          omega (arith, (same_refused (leaving n u) (leaving e w) (sym s ∙ q)).1)

pub output_small : (v : Seen) (b : Bool) (entries : ℕ) (slots : List ℕ) (l : Limits) → ProfileFine v b slots l
    → (format_of v b entries slots).output ≤ l.max_output
unfolding format_with shape_of
output_small v b entries slots l p = by (present (entry_in slots tile_offsets))
  where
    by : (t : Bool) → (format_with b entries slots (shape_of (numbers_of v b slots) t)).output ≤ l.max_output
    by true = p.output_allowed
    by false = p.output_allowed

module _ (v : Seen) (page : ℕ) (l : Limits) where
  -- inspection succeeds where the units reach upstream's bound
  pub inspection_succeeds : (u : ℕ) → PictureFine v page l → work_bound page l ≤ u → inspected_of v page l u
      ≡ Ok (inspected_with (handle_of v page) (u - inspection_charge v page))
  inspection_succeeds u p enough =
      (inspection_exact v page l u (u - inspection_charge v page) (handle_of v page)).1
      (record { fine = p; covered = omega (arith, bound_covers v page l p); rest = refl; handle_is = refl })

  module _ (u w : ℕ) where
    pub inspection_less : (h : Handle) → inspected_of v page l u ≡ Ok (inspected_with h w) → w ≤ u
    inspection_less h e = omega (arith, ((inspection_exact v page l u w h).0 e).rest)

    pub refusal_less : (e : Refusal) → inspected_of v page l u ≡ Err (leaving e w) → w ≤ u
    refusal_less e q = omega (arith, ((inspection_refused v page l u w e).0 q).rest)

    -- output and scratch are within max_output
    module _ (h : Handle) (i : Inspects v page l u w h) where
      of_page : h.format ≡ format_seen v page
      of_page = ap (λ (x : Handle). x.format) i.handle_is

      pub scratch_allowed : h.scratch ≤ l.max_output
      scratch_allowed =
          let g : Largest (format_seen v page) h.scratch = rw of_page at (scratch_given v page l u w h i) in
          omega (arith, g.first_all, (i.fine.each_segment 0 g.some_segment).room_allowed)

      pub output_allowed : h.format.output ≤ l.max_output
      output_allowed = rw of_page (output_small v (big_endian v) _ _ l i.fine.page_fine.profile)

-- a handle that passes the check is well_formed
pub well_formed : (v : Seen) (l : Limits) (h : Handle) → is_handle v l h ≡ true → WellFormed v l h
well_formed v l h passes =
    let given = (given_inspected v l h).0 ((handle_exact v l h).0 passes) in
    let i = (inspection_exact v h.page l most64 given.0 h).0 given.1 in
    let f = of_page v h.page l most64 given.0 h i in
    record {
      header = i.fine.page_fine.header;
      directories = i.fine.page_fine.directories;
      profile = i.fine.page_fine.profile;
      format_is = f;
      valid_format = rw f (page_valid v h.page l i.fine.page_fine);
      each_segment = rw f i.fine.each_segment;
      scratch_is = ap (λ (x : Handle). x.scratch) i.handle_is ∙ ap scratch_of (sym f);
      scratch_small = scratch_allowed v h.page l most64 given.0 h i;
      work_is = ap (λ (x : Handle). x.work) i.handle_is ∙ ap (work_of v) (sym f);
      output_within = output_allowed v h.page l most64 given.0 h i;
    }
