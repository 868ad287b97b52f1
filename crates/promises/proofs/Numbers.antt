-- An answer's number is 0 exactly where the call succeeded, and a refusal's is one of 1 to 7: no check of a strict reading gives another.
use Prim.Native.Nat.{ℕ, ◌<◌, ◌≤◌}
use mathlib.Core.Path.{◌≡◌, refl, sym, ◌∙◌}
use mathlib.Core.Logic.{◌↔◌}
use mathlib.Core.List.{List, []}
use mathlib.Core.Bool.{Bool, true, false}
use native.Mathlib.Omega.{arith}
use lib.Dec.{ltb, leb}
use borrow.Author.Tests.{ltb-true, ltb-false, leb-true, leb-false}
use Rattle.checks.specs.Numbers.{number_of, invalid, output_too_small, budget, told_number, Told, leaving}
use Rattle.checks.specs.Checks.{Check, run, Never}
use Rattle.checks.proofs.Exact.{never, never_both}
use Rattle.checks.proofs.Rules.{giving_left_number}
use Rattle.checks.specs.declared.Refusal.{Refusal}
use Rattle.seen.specs.Seen.{Seen, seen}
use Rattle.seen.proofs.Alike.{whole_came}
use Rattle.header.specs.declared.Limits.{Limits}
use Rattle.front.proofs.Arrival.{Unusual, zero_unusual, not_given}
use Rattle.handle.specs.Handle.{inspected_with, inspected_number, inspected}
use Rattle.inspection.specs.Inspection.{handle_of, inspect_checks, inspected_of}
use Rattle.decoding.specs.Strict.{show_checks, decode_checks, both_checks, both_of}
use Rattle.handle.specs.declared.Handle.{Handle}
use Rattle.promises.proofs.Strict.{told_refused, never_inspect}
use Rattle.std.specs.Prelude.{Ok, Err}

-- checks of which none gives 0 are answered with 0 exactly where they all pass
pub told_number_lem : (cs : List Check) (u : ℕ) → Never 0 cs → (told_number (run cs u) ≡ 0) ↔ ((w : ℕ) × (run cs u ≡ Ok w))
told_number_lem cs u no_zero = (λ z. by (run cs u) refl z, λ (w, e). rw e)
  where
    by : (t : Told) → run cs u ≡ t → told_number t ≡ 0 → (w : ℕ) × (run cs u ≡ Ok w)
    by (Ok w) e z = (w, e)
    by (Err r) e z = absurd (never 0 cs u r no_zero e z)

-- the same where a handle stands beside them
picture_number : (cs : List Check) (u : ℕ) (h : Handle) → Never 0 cs → (inspected_number (inspected (run cs u) h) ≡ 0)
    ↔ ((g : Handle) × (w : ℕ) × (inspected (run cs u) h ≡ Ok (inspected_with g w)))
picture_number cs u h no_zero =
    (λ z. given ((told_number_lem cs u no_zero).0 (sym (giving_left_number (run cs u) (inspected_with h)) ∙ z)), λ (g, w, e). rw e)
  where
    given : ((w : ℕ) × (run cs u ≡ Ok w)) → (g : Handle) × (w : ℕ) × (inspected (run cs u) h ≡ Ok (inspected_with g w))
    given (w, e) = (h, w, rw e)

-- a refusal has a number that some check gives: where none gives a number outside of 1 to `most`, it is one of these
pub told_numbered : (most : ℕ) (cs : List Check) → ((n : ℕ) → ((0 < n) × (n ≤ most) → ⊥) → Never n cs)
    → (u : ℕ) (e : Refusal) (w : ℕ) → run cs u ≡ Err (leaving e w)
    → (0 < number_of e) × (number_of e ≤ most)
told_numbered most cs others u e w q = by (ltb 0 (number_of e)) (leb (number_of e) most) refl refl
  where
    by : (a b : Bool) → ltb 0 (number_of e) ≡ a → leb (number_of e) most ≡ b → (0 < number_of e) × (number_of e ≤ most)
    by true true p r = (ltb-true 0 (number_of e) p, leb-true (number_of e) most r)
    by true false p r = absurd (never (number_of e) cs u (leaving e w) (others (number_of e) (λ k. omega (arith, leb-false (number_of e) most r, k.1))) q refl)
    by false b p r = absurd (never (number_of e) cs u (leaving e w) (others (number_of e) (λ k. omega (arith, ltb-false 0 (number_of e) p, k.0))) q refl)

-- a number outside of 1 to 7 is none of those that most checks give
pub outside_unusual : (number : ℕ) → ((0 < number) × (number ≤ 7) → ⊥) → Unusual number
outside_unusual number other n a b z = other (omega arith, omega arith)

-- the buffers and the charge give 6 and 7
pub never_show : (number : ℕ) → Unusual number → (h : Handle) (output scratch : ℕ) → Never number (show_checks h output scratch)
unfolding Never
never_show number unusual h output scratch = (
  not_given number unusual output_too_small (omega arith) (omega arith),
  (not_given number unusual output_too_small (omega arith) (omega arith), (unusual (number_of budget) (omega arith) (omega arith), tt)),
)

module _ (v : Seen) (l : Limits) (h : Handle) (output scratch : ℕ) where
  never_decode : (number : ℕ) → Unusual number → Never number (decode_checks v l h output scratch)
  unfolding Never
  never_decode number unusual = (not_given number unusual invalid (omega arith) (omega arith), never_show number unusual h output scratch)

  -- decode's number is 0 exactly if it passes
  pub decode_number : (u : ℕ)
      → (told_number (run (decode_checks v l h output scratch) u) ≡ 0) ↔ ((w : ℕ) × (run (decode_checks v l h output scratch) u ≡ Ok w))
  decode_number u = told_number_lem (decode_checks v l h output scratch) u (never_decode 0 zero_unusual)

  pub decode_numbered : (u : ℕ) (e : Refusal) (w : ℕ) → run (decode_checks v l h output scratch) u ≡ Err (leaving e w) → (0 < number_of e) × (number_of e ≤ 7)
  decode_numbered = told_numbered 7 (decode_checks v l h output scratch) (λ n other. never_decode n (outside_unusual n other))

-- strict reading sees a file whole, so 8 is given by no check
module _ (file : List ℕ) (page : ℕ) (l : Limits) where
  abbrev v : Seen
  v = seen file []

  never_inspection : (number : ℕ) → Unusual number → Never number (inspect_checks v page l)
  never_inspection number unusual = never_inspect number unusual v (λ z. whole_came file) page l

  never_read : (output scratch number : ℕ) → Unusual number → Never number (both_checks v page l output scratch)
  unfolding both_checks
  never_read output scratch number unusual =
      never_both number (inspect_checks v page l) (show_checks (handle_of v page) output scratch)
      (never_inspection number unusual) (never_show number unusual (handle_of v page) output scratch)

  -- an inspection's number is 0 exactly if it gives a handle
  pub inspection_number : (u : ℕ)
      → (inspected_number (inspected_of v page l u) ≡ 0) ↔ ((h : Handle) × (w : ℕ) × (inspected_of v page l u ≡ Ok (inspected_with h w)))
  inspection_number u = picture_number (inspect_checks v page l) u (handle_of v page) (never_inspection 0 zero_unusual)

  pub inspection_numbered : (u : ℕ) (e : Refusal) (w : ℕ) → inspected_of v page l u ≡ Err (leaving e w) → (0 < number_of e) × (number_of e ≤ 7)
  inspection_numbered u e w q =
      told_numbered 7 (inspect_checks v page l) (λ n other. never_inspection n (outside_unusual n other)) u e w (told_refused v page l u w e q)

  module _ (output scratch : ℕ) where
    -- and so the number of inspection and decode in one call
    pub read_number : (u : ℕ)
        → (inspected_number (both_of v page l output scratch u) ≡ 0) ↔ ((h : Handle) × (w : ℕ) × (both_of v page l output scratch u ≡ Ok (inspected_with h w)))
    read_number u = picture_number (both_checks v page l output scratch) u (handle_of v page) (never_read output scratch 0 zero_unusual)

    pub read_numbered : (u : ℕ) (e : Refusal) (w : ℕ) → run (both_checks v page l output scratch) u ≡ Err (leaving e w) → (0 < number_of e) × (number_of e ≤ 7)
    read_numbered = told_numbered 7 (both_checks v page l output scratch) (λ n other. never_read output scratch n (outside_unusual n other))
