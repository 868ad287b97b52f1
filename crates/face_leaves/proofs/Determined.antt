-- Each contract here allows one result: two that meet it for the same lent things are equal.
use Prim.Native.Nat.{ℕ}
use mathlib.Core.Path.{◌≡◌, sym, ◌∙◌}
use mathlib.Core.Bool.{Bool}
use mathlib.Core.List.{List}
use Rattle.header.specs.declared.Limits.{Limits}
use Rattle.face_leaves.specs.Leaves.{WorkLimit, Predictor64, Predictor3}

pub work_limit_one : (page : ℕ) (l : Limits) (old : ℕ) {n m u v : ℕ} → WorkLimit page l old n u → WorkLimit page l old m v → (n ≡ m) × (u ≡ v)
work_limit_one page l old a b = (a.number_is ∙ sym b.number_is, a.limit_is ∙ sym b.limit_is)

module _ (raw : List ℕ) (width height channels reset : ℕ) (little predict : Bool) (output : List ℕ) where
  abbrev Converts : ℕ → List ℕ → Type 0
  Converts = Predictor64 raw width height channels reset little predict output

  pub predictor64_one : {n m : ℕ} {x x' : List ℕ} → Converts n x → Converts m x' → (n ≡ m) × (x ≡ x')
  predictor64_one a b = (a.number_is ∙ sym b.number_is, a.output_is ∙ sym b.output_is)

module _ (raw : List ℕ) (row channels bytes : ℕ) (little : Bool) (scratch output : List ℕ) where
  abbrev Sums : ℕ → List ℕ → List ℕ → Type 0
  Sums = Predictor3 raw row channels bytes little scratch output

  pub predictor3_one : {n m : ℕ} {y y' x x' : List ℕ} → Sums n y x → Sums m y' x' → (n ≡ m) × (y ≡ y') × (x ≡ x')
  predictor3_one a b = (a.number_is ∙ sym b.number_is, a.scratch_is ∙ sym b.scratch_is, a.output_is ∙ sym b.output_is)
