-- Strict reading in one call is exact, and is inspection and then decode: a refusal of the inspection is its answer, and what the inspection
-- gives is decoded with the units that it left.
use Prim.Native.Nat.{ℕ, ◌+◌, ◌≤◌}
use mathlib.Core.Path.{◌≡◌, refl, ◌∙◌}
use mathlib.Core.Logic.{◌↔◌}
use native.Mathlib.Omega.{arith}
use Rattle.checks.specs.Checks.{run, Holds, cost}
use Rattle.checks.specs.Exact.{Exact}
use Rattle.checks.proofs.Exact.{accepted, both, cost_then, then, stops}
use Rattle.checks.specs.Sizes.{most64}
use Rattle.seen.specs.Seen.{Seen}
use Rattle.header.specs.declared.Limits.{Limits}
use Rattle.inspection.specs.Inspection.{handle_of, inspect_checks, inspected_of}
use Rattle.handle.specs.Handle.{inspected, inspected_with}
use Rattle.decoding.specs.Strict.{show_checks, decode_checks, both_checks, both_of}
use Rattle.handle.specs.declared.Handle.{Handle}
use Rattle.handle.proofs.Answers.{inspected_picture}
use Rattle.promises.specs.Strict.{PictureFine, inspection_charge, ReadsPage}
use Rattle.promises.proofs.Strict.{picture_fine, picture_cost, inspection_exact, told_passed, told_refused}
use Rattle.promises.proofs.Handles.{show_fine, handle_exact, handle_given}
use Rattle.checks.specs.Numbers.{leaving}
use Rattle.checks.specs.declared.Refusal.{Refusal}
use Rattle.std.specs.Prelude.{Ok, Err}

module _ (v : Seen) (page : ℕ) (l : Limits) (output scratch : ℕ) where
  read_fine : Holds (both_checks v page l output scratch)
      ↔ (PictureFine v page l × (((handle_of v page).format.output ≤ output) × ((handle_of v page).scratch ≤ scratch)))
  unfolding both_checks
  read_fine = both (inspect_checks v page l) (show_checks (handle_of v page) output scratch)
      (picture_fine v page l) (show_fine (handle_of v page) output scratch)

  read_cost : cost (both_checks v page l output scratch) ≡ inspection_charge v page + (handle_of v page).work
  unfolding cost both_checks
  read_cost = let e = cost_then (inspect_checks v page l) (show_checks (handle_of v page) output scratch) in omega (arith, e, picture_cost v page l)

  module _ (u w : ℕ) where
    passes : Exact (both_checks v page l output scratch) u w → ReadsPage v page l output scratch u w (handle_of v page)
    passes x =
        let p = read_fine.0 x.holds in
        record {
          fine = p.0;
          output_holds = p.1.0;
          scratch_holds = p.1.1;
          covered = omega (arith, read_cost, x.covered);
          rest = x.rest
              ∙ rw read_cost;
          handle_is = refl;
        }

    is_exact : (h : Handle) → ReadsPage v page l output scratch u w h → Exact (both_checks v page l output scratch) u w
    is_exact h r =
        record {
          holds = read_fine.1 (r.fine, (r.output_holds, r.scratch_holds));
          covered = omega (arith, read_cost, r.covered);
          rest = r.rest
              ∙ rw read_cost;
        }

    -- it succeeds exactly if the picture is fine, the buffers hold it, and the units cover both charges, and no more is charged
    pub read_exact : (h : Handle) → (both_of v page l output scratch u ≡ Ok (inspected_with h w)) ↔ ReadsPage v page l output scratch u w h
    read_exact h = (
      λ e.
          let p = inspected_picture (run (both_checks v page l output scratch) u) (handle_of v page) h w e in
          rw p.1 (passes ((accepted (both_checks v page l output scratch) u w).0 p.0)),
      λ r. rw ((accepted (both_checks v page l output scratch) u w).1 (is_exact h r), r.handle_is),
    )

  -- what the inspection gives is decoded with the units that it left
  pub read_as_two : (u x : ℕ) (h : Handle) → inspected_of v page l u ≡ Ok (inspected_with h x) → u ≤ most64 → both_of v page l output scratch u
      ≡ inspected (run (decode_checks v l h output scratch) x) h
  unfolding run both_checks
  read_as_two u x h gave units =
      let passed = then (inspect_checks v page l) (show_checks (handle_of v page) output scratch) u x (told_passed v page l u x h gave) in
      rw (passed, (handle_exact v l h).1 (handle_given v l page u x h gave units), ((inspection_exact v page l u x h).0 gave).handle_is)

  -- and a refusal of the inspection is the answer
  pub read_refused_early : (u : ℕ) (e : Refusal) (x : ℕ) → inspected_of v page l u ≡ Err (leaving e x) → both_of v page l output scratch u ≡ Err (leaving e x)
  unfolding both_checks
  read_refused_early u e x q =
      rw (stops (inspect_checks v page l) (show_checks (handle_of v page) output scratch) u (leaving e x) (told_refused v page l u x e q))
