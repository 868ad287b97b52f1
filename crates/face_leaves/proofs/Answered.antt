-- The answers of work limit and predictors as numbers.
use Prim.Native.Nat.{ℕ}
use mathlib.Core.Path.{◌≡◌, ap, ◌∙◌}
use mathlib.Core.Bool.{Bool}
use mathlib.Core.List.{List}
use borrow.Author.Rules.{rules}
use Rattle.checks.specs.Numbers.{limit, number_of, verdict_number, Verdict}
use Rattle.checks.specs.Buffers.{afterwards}
use Rattle.checks.specs.Sizes.{within, size_number, size_or}
use Rattle.header.specs.declared.Limits.{Limits}
use Rattle.work_limit.specs.WorkLimit.{work_bound}
use Rattle.float64.specs.Float64.{samples}
use Rattle.native_fp.specs.NativeFp.{summed, gathered}
use Rattle.face_leaves.specs.Leaves.{verdict64, verdict3, WorkLimit, Predictor64, Predictor3}
use Rattle.std.specs.Prelude.{Option, Some, None}

module _ (page : ℕ) (l : Limits) (old : ℕ) where
  pub over : (n : ℕ) → None ≡ within (work_bound page l) → n ≡ number_of limit → WorkLimit page l old n old
  over n q en = record { number_is = en ∙ ap size_number q; limit_is = ap (λ (s : Option ℕ). size_or s old) q }

  pub fits : (n : ℕ) → Some n ≡ within (work_bound page l) → WorkLimit page l old 0 n
  fits n q = record { number_is = ap size_number q; limit_is = ap (λ (s : Option ℕ). size_or s old) q }

pub ruleset bounding = (over, fits, rules)

module _ (raw : List ℕ) (width height channels reset : ℕ) (little predict : Bool) (output : List ℕ) where
  abbrev Converted : ℕ → List ℕ → Type 0
  Converted = Predictor64 raw width height channels reset little predict output

  abbrev sampled : Verdict → List ℕ
  sampled v = afterwards v (samples little predict width height channels reset raw) output

  pub converted : (x : List ℕ) (n : ℕ) {v : Verdict} → v ≡ verdict64 raw width height channels reset little predict output
      → n ≡ verdict_number v → x ≡ sampled v → Converted n x
  converted x n ev en ex = record { number_is = en ∙ ap verdict_number ev; output_is = ex ∙ ap sampled ev }

module _ (raw : List ℕ) (row channels bytes : ℕ) (little : Bool) (scratch output : List ℕ) where
  abbrev Summed : ℕ → List ℕ → List ℕ → Type 0
  Summed = Predictor3 raw row channels bytes little scratch output

  abbrev sums : Verdict → List ℕ
  sums v = afterwards v (summed row channels raw) scratch

  abbrev gathers : Verdict → List ℕ
  gathers v = afterwards v (gathered row channels bytes little raw) output

  pub summed_up : (y x : List ℕ) (n : ℕ) {v : Verdict} → v ≡ verdict3 raw row channels bytes little scratch output
      → n ≡ verdict_number v → y ≡ sums v → x ≡ gathers v → Summed n y x
  summed_up y x n ev en ey ex = record { number_is = en ∙ ap verdict_number ev; scratch_is = ey ∙ ap sums ev; output_is = ex ∙ ap gathers ev }

pub ruleset predicting = (converted, summed_up, rules)
