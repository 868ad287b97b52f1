-- The calls of the C face that read no file: what each answers, and what it leaves in what it was lent.
use Rattle.std.specs.Prelude.{ℕ, ◌≡◌, Bool, List, length}
use Rattle.checks.specs.Checks.{verdict}
use Rattle.checks.specs.Numbers.{verdict_number, Verdict}
use Rattle.checks.specs.Sizes.{within, size_number, size_or}
use Rattle.checks.specs.Buffers.{afterwards}
use Rattle.header.specs.declared.Limits.{Limits}
use Rattle.work_limit.specs.WorkLimit.{work_bound}
use Rattle.float64.specs.Float64.{checks64, samples}
use Rattle.native_fp.specs.NativeFp.{fp_checks, summed, gathered}

pub record WorkLimit (page : ℕ) (l : Limits) (old number new : ℕ) : Type 0 where
  pub number_is : number ≡ size_number (within (work_bound page l))
  pub limit_is : new ≡ size_or (within (work_bound page l)) old

module _ (raw : List ℕ) (width height channels reset : ℕ) (little predict : Bool) (output : List ℕ) where
  abbrev pub verdict64 : Verdict
  verdict64 = verdict (checks64 width height channels reset (length raw) (length output))

  pub record Predictor64 (number : ℕ) (output' : List ℕ) : Type 0 where
    pub number_is : number ≡ verdict_number verdict64
    pub output_is : output' ≡ afterwards verdict64 (samples little predict width height channels reset raw) output

module _ (raw : List ℕ) (row channels bytes : ℕ) (little : Bool) (scratch output : List ℕ) where
  abbrev pub verdict3 : Verdict
  verdict3 = verdict (fp_checks row channels bytes (length raw) (length scratch) (length output))

  pub record Predictor3 (number : ℕ) (scratch' output' : List ℕ) : Type 0 where
    pub number_is : number ≡ verdict_number verdict3
    pub scratch_is : scratch' ≡ afterwards verdict3 (summed row channels raw) scratch
    pub output_is : output' ≡ afterwards verdict3 (gathered row channels bytes little raw) output
