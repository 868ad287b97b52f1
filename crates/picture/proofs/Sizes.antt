-- Rows, area and scratch of a segment of the picture: small, as the sides of a block are.
use Prim.Native.Nat.{ℕ, ◌*◌, ◌<◌, ◌≤◌}
use mathlib.Core.Path.{◌≡◌, refl, ap, ◌∙◌}
use native.Mathlib.Omega.{arith}
use native.Mathlib.Nat.{mul-le-mul_left}
use borrow.Author.Rules.{rules}
use Rattle.head.specs.Heads.{planes_of}
use Rattle.geometry.specs.Geometry.{most_side}
use Rattle.geometry.specs.Inner.{Cut}
use Rattle.geometry.specs.Costs.{needed_for, scratch_for}
use Rattle.geometry.proofs.Cutting.{cut_of, rows_le}
use Rattle.picture.specs.declared.Format.{Format}
use Rattle.picture.specs.Picture.{rows_in, area_of, needed_of, scratch_of}
use Rattle.picture.specs.Inner.{Valid}

module _ (f : Format) (k : ℕ) (ok : Valid f) (h : k < f.segments) where
  pub segment_cut : Cut f.height f.block_height f.across k
  segment_cut = cut_of f.height f.block_height f.across k ok.some_height (omega (arith, ok.across_is)) (omega (arith, ok.segments_are))

pub rows_low : (f : Format) (k r : ℕ) → r ≡ rows_in f k → r ≤ f.block_height
rows_low f k r e = omega (arith, rows_le f.tiled f.height f.block_height f.across k)

module _ (f : Format) (ok : Valid f) where
  pub rows_allowed : (rows : ℕ) → rows ≤ f.block_height → rows ≤ most_side
  rows_allowed rows low = omega (arith, ok.block_height_allowed)

pub area_is : (f : Format) (k rows : ℕ) → rows ≡ rows_in f k → {r : ℕ} → r ≡ f.block_width * rows → r ≡ area_of f k
area_is f k rows e q = q ∙ ap (λ (n : ℕ). f.block_width * n) e

pub needed_is : (f : Format) (k area : ℕ) → area ≡ area_of f k → {r : ℕ} → r ≡ needed_for f.mono area → r ≡ needed_of f k
needed_is f k area e q = q ∙ ap (needed_for f.mono) e

pub scratch_is : (f : Format) (area : ℕ) → area ≡ f.block_width * f.block_height → {r : ℕ} → r ≡ scratch_for f.mono area → r ≡ scratch_of f
scratch_is f area e q = q ∙ ap (scratch_for f.mono) e

pub ruleset sizes = (segment_cut, rows_low, rows_allowed, area_is, needed_is, scratch_is, rules)

-- what a segment's packets fill is within the scratch of a block
pub needed_in_scratch : (f : Format) (k : ℕ) → needed_of f k ≤ scratch_of f
needed_in_scratch f k =
    let h : area_of f k ≤ f.block_width * f.block_height = mul-le-mul_left f.block_width (rows_low f k (rows_in f k) refl) in
    omega (arith, mul-le-mul_left (planes_of f.mono) h)
