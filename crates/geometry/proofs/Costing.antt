-- What an area needs and costs for either head: each product is small, as the sides of a block are, and the fee is a sum that may be over.
use Prim.Native.Nat.{ℕ, ◌+◌, ◌*◌, ◌≤◌}
use mathlib.Core.Path.{◌≡◌}
use native.Mathlib.Omega.{arith}
use native.Mathlib.Nat.{mul-le-mul}
use mir.Syntax.{w64}
use mir.Val.{Fits}
use borrow.Author.Rules.{rules}
use Rattle.head.specs.Heads.{Head, planes_of, bytes_of}
use Rattle.head.proofs.Heads.{planes_most, bytes_most}
use Rattle.checks.specs.Sizes.{within}
use Rattle.geometry.specs.Geometry.{most_side, most_area}
use Rattle.geometry.specs.Costs.{needed_for, scratch_for, fee}
use Rattle.std.specs.Prelude.{Option}

module _ (width rows : ℕ) (a : width ≤ most_side) (b : rows ≤ most_side) where
  pub area_small : width * rows ≤ most_area
  area_small = mul-le-mul {n₂ = most_side} {m₂ = most_side} a b

  pub area_fits : Fits w64 (width * rows)
  area_fits = record { fits = omega (arith, area_small) }

-- of planes and bytes that calls told
module _ (head : Head) (p : ℕ) (ep : p ≡ planes_of head) (area : ℕ) where
  pub needed_told : p * area ≡ needed_for head area
  needed_told = rw ep

  pub needed_fits : area ≤ most_area → Fits w64 (p * area)
  needed_fits a = record { fits = omega (arith, mul-le-mul {n₂ = 4} {m₂ = most_area} (planes_most head) a, needed_told) }

  pub scratch_told : (b : ℕ) → b ≡ bytes_of head → (p + b) * area ≡ scratch_for head area
  scratch_told b eb = rw (ep, eb)

  -- be the bytes this head's or another's, the sum and the product are small
  module _ (other : Head) (b : ℕ) (eb : b ≡ bytes_of other) where
    both_most : p + b ≤ 10
    both_most = omega (arith, planes_most head, bytes_most other)

    pub both_fit : Fits w64 (p + b)
    both_fit = record { fits = omega (arith, both_most) }

    pub scratch_low : area ≤ most_area → (p + b) * area ≤ 10 * most_area
    scratch_low a = mul-le-mul {n₂ = 10} {m₂ = most_area} both_most a

    pub scratch_fits : area ≤ most_area → Fits w64 ((p + b) * area)
    scratch_fits a = record { fits = omega (arith, scratch_low a) }

pub fee_told : (head : Head) (count area s : ℕ) → s ≡ scratch_for head area → {r : Option ℕ} → r ≡ within (count + (2 * s + 1)) → r ≡ within (fee head count area)
fee_told head count area s es e = let same : count + (2 * s + 1) ≡ fee head count area = omega arith in rw same at e

pub ruleset costs = (area_small, area_fits, needed_told, needed_fits, both_fit, scratch_told, scratch_low, scratch_fits, fee_told, rules)
