-- Strict decode is exact: a handle passes exactly if it is given, and decode then needs the buffers and the sum of fees; each refusal is that of
-- the first check that fails.
use Prim.Native.Nat.{ℕ, ◌-◌, ◌≤◌}
use mathlib.Core.Path.{◌≡◌, refl, sym, ◌∙◌}
use mathlib.Core.Path.{◌≡◌, refl}
use mathlib.Core.Logic.Iff
use mathlib.Core.Logic.{◌↔◌}
use mathlib.Core.Bool.{Bool, true, false}
use native.Mathlib.Omega.{arith}
use borrow.Author.Tests.{leb-true, le-leb}
use Rattle.checks.specs.Numbers.{number_of, invalid, leaving}
use Rattle.checks.specs.Checks.{run, Holds, cost, Never}
use Rattle.checks.specs.Exact.{Exact, RefusedAt}
use Rattle.checks.proofs.Exact.{accepted, never, same_refused}
use Rattle.checks.proofs.Refusals.{refused}
use Rattle.checks.proofs.Rules.{must_no, must_yes}
use Rattle.checks.specs.Sizes.{most64}
use Rattle.seen.specs.Seen.{Seen}
use Rattle.seen.proofs.Blocks.{true_false}
use Rattle.header.specs.declared.Limits.{Limits}
use Rattle.inspection.specs.Inspection.{inspected_of, is_handle}
use Rattle.decoding.specs.Strict.{show_checks, decode_checks}
use Rattle.handle.specs.declared.Handle.{Handle}
use Rattle.handle.specs.Handle.{inspected_with}
use Rattle.handle.proofs.Handles.{same_self}
use Rattle.handle.proofs.Answers.{given_is}
use Rattle.promises.specs.Strict.{inspection_charge, Given, Decodes}
use Rattle.promises.proofs.Strict.{inspection_exact}
use Rattle.std.specs.Prelude.{Ok, Err}
use Rattle.checks.specs.declared.Refusal.{Refusal}
use Rattle.checks.specs.declared.Refused.{Refused}

-- buffers that hold the picture
pub show_fine : (h : Handle) (output scratch : ℕ) → Holds (show_checks h output scratch) ↔ ((h.format.output ≤ output) × (h.scratch ≤ scratch))
unfolding Holds
show_fine h output scratch = (
  λ p. (leb-true h.format.output output p.0, leb-true h.scratch scratch p.1.0),
  λ p. (le-leb h.format.output output p.0, (le-leb h.scratch scratch p.1, tt)),
)

-- the buffers and the charge never answer 2
pub shown_valid : (h : Handle) (output scratch u : ℕ) (r : Refused) → run (show_checks h output scratch) u ≡ Err r → number_of r.refusal ≡ number_of invalid → ⊥
unfolding Never
shown_valid h output scratch u r =
    never 2 (show_checks h output scratch) u r (λ y. absurd (omega arith), (λ y. absurd (omega arith), (λ y. omega arith, tt)))

module _ (v : Seen) (l : Limits) where
  -- a handle is given exactly if an inspection of its page, with units for any charge, gives it
  pub given_inspected : (h : Handle) → Given v l h ↔ ((w : ℕ) × (inspected_of v h.page l most64 ≡ Ok (inspected_with h w)))
  given_inspected h = (
    λ g.
        let left = most64 - inspection_charge v h.page in
        (left, (inspection_exact v h.page l most64 left h).1 (record { fine = g.fine; covered = g.charge_fits; rest = refl; handle_is = g.handle_is })),
    λ (w, e). let i = (inspection_exact v h.page l most64 w h).0 e in record { fine = i.fine; charge_fits = i.covered; handle_is = i.handle_is },
  )

  -- so it passes the check of a handle exactly then
  pub handle_exact : (h : Handle) → (is_handle v l h ≡ true) ↔ Given v l h
  unfolding is_handle
  handle_exact h = (
    λ q. (given_inspected h).1 (given_is (inspected_of v h.page l most64) h q),
    λ g. rw ((given_inspected h).0 g).1 (same_self h),
  )

  module _ (h : Handle) (output scratch u w : ℕ) where
    decodes : Exact (decode_checks v l h output scratch) u w ↔ Decodes v l h output scratch u w
    unfolding Holds cost
    decodes = (
      λ x.
          let p = (show_fine h output scratch).0 x.holds.1 in
          record {
            given = (handle_exact h).0 x.holds.0;
            output_holds = p.0;
            scratch_holds = p.1;
            covered = omega (arith, x.covered);
            rest = omega (arith, x.rest);
          },
      λ d. record {
        holds = ((handle_exact h).1 d.given, (show_fine h output scratch).1 (d.output_holds, d.scratch_holds));
        covered = omega (arith, d.covered);
        rest = omega (arith, d.rest);
      },
    )

    -- decode succeeds, and leaves so many units, exactly if all of this is true
    pub decode_exact : (run (decode_checks v l h output scratch) u ≡ Ok w) ↔ Decodes v l h output scratch u w
    decode_exact = Iff.trans (accepted (decode_checks v l h output scratch) u w) decodes

    -- it refuses exactly with the number of the first check that fails
    pub decode_refused : (e : Refusal) → (run (decode_checks v l h output scratch) u ≡ Err (leaving e w)) ↔ RefusedAt (decode_checks v l h output scratch) u e w
    decode_refused e = refused (decode_checks v l h output scratch) u e w

    -- so 2 is the answer exactly where the handle is not given, and nothing is taken
    pub decode_invalid : (run (decode_checks v l h output scratch) u ≡ Err (leaving invalid w)) ↔ ((Given v l h → ⊥) × (w ≡ u))
    decode_invalid = (
      λ q. by (is_handle v l h) refl q,
      λ p. rw p.1 (other (is_handle v l h) refl p.0),
    )
      where
        by : (t : Bool) → is_handle v l h ≡ t → run (decode_checks v l h output scratch) u ≡ Err (leaving invalid w) → (Given v l h → ⊥) × (w ≡ u)
        by true t q = absurd (shown_valid h output scratch u (leaving invalid w) (must_yes _ _ _ _ t refl ∙ q) refl)
        by false t q =
            (λ g. true_false ((handle_exact h).1 g) t, sym (same_refused (leaving invalid u) (leaving invalid w) (must_no _ _ _ _ t ∙ q)).1)

        other : (t : Bool) → is_handle v l h ≡ t → (Given v l h → ⊥) → run (decode_checks v l h output scratch) u ≡ Err (leaving invalid u)
        other true t d = absurd (d ((handle_exact h).0 t))
        other false t d = sym (must_no _ _ _ _ t)

  -- what an inspection gave can be decoded, into buffers that hold it and for the sum of fees
  module _ (page u w : ℕ) (h : Handle) (gave : inspected_of v page l u ≡ Ok (inspected_with h w)) (units : u ≤ most64) where
    pub handle_given : Given v l h
    handle_given =
        let i = (inspection_exact v page l u w h).0 gave in
        rw i.handle_is (record { fine = i.fine; charge_fits = omega (arith, i.covered); handle_is = refl })

    pub decode_succeeds : (output scratch left : ℕ) → h.format.output ≤ output → h.scratch ≤ scratch → h.work ≤ left
        → run (decode_checks v l h output scratch) left ≡ Ok (left - h.work)
    decode_succeeds output scratch left a b c =
        (decode_exact h output scratch left (left - h.work)).1 (record { given = handle_given; output_holds = a; scratch_holds = b; covered = c; rest = refl })
