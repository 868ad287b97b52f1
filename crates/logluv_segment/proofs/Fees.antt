-- What the checks of segments charge: the sum of their fees.
use Prim.Native.Nat.{ℕ, zero, suc, ◌+◌, ◌<◌, ◌≤◌}
use mathlib.Core.Path.{◌≡◌, refl, ◌∙◌}
use mathlib.Core.Logic.{⊎_elim}
use native.Mathlib.Omega.{arith}
use native.Mathlib.Nat.{eq-or-lt_of_le}
use Rattle.checks.specs.Checks.{cost}
use Rattle.checks.proofs.Exact.{cost_then}
use Rattle.seen.specs.Seen.{Seen}
use Rattle.picture.specs.declared.Format.{Format}
use Rattle.plan.specs.Plan.{fee_of, plan_checks}
use Rattle.plan.proofs.Planning.{plan_free}
use Rattle.logluv_segment.specs.Segment.{fee_checks, segment_checks, each_segment, fees_of}
use Rattle.logluv_segment.proofs.Checking.{stored_free}

module _ (v : Seen) (f : Format) (maxOutput : ℕ) where
  pub segment_cost : (k : ℕ) → cost (segment_checks v f maxOutput k) ≡ fee_of v f k
  unfolding cost segment_checks
  segment_cost k =
      cost_then (plan_checks v f maxOutput k) (fee_checks v f k) ∙ omega (arith, plan_free v f maxOutput k, stored_free v f k)

  pub segments_cost : (n k : ℕ) → cost (each_segment v f maxOutput k n) ≡ fees_of v f k n
  unfolding cost each_segment fees_of
  segments_cost zero k = refl
  segments_cost (suc n) k =
      cost_then (segment_checks v f maxOutput k) (each_segment v f maxOutput (suc k) n) ∙ rw (segment_cost k, segments_cost n (suc k))

-- none of them is above the sum
pub fee_below : (v : Seen) (f : Format) (n k j : ℕ) → k ≤ j → j < k + n → fee_of v f j ≤ fees_of v f k n
unfolding fees_of
fee_below v f zero k j a b = absurd (omega arith)
fee_below v f (suc n) k j a b =
    ⊎_elim (λ (z : k ≡ j). rw z (omega arith)) (λ (l : k < j). omega (arith, fee_below v f n (suc k) j l (omega arith))) (eq-or-lt_of_le a)
