-- The call's contract allows one result: two that meet it for the same lent things are equal.
use Prim.Native.Nat.{ℕ}
use mathlib.Core.Path.{◌≡◌, sym, ◌∙◌}
use mathlib.Core.List.{List}
use Rattle.header.specs.declared.Limits.{Limits}
use Rattle.plain_patchy.specs.declared.Answer.{Answer}
use Rattle.plain_patchy.specs.Read.{PatchyRead}

module _ (file map : List ℕ) (page : ℕ) (l : Limits) (output scratch quality : List ℕ) (units : ℕ) where
  abbrev Reads : Answer → ℕ → List ℕ → List ℕ → List ℕ → Type 0
  Reads = PatchyRead file map page l output scratch quality units

  pub patchy_read_one : {p q : Answer} {u v : ℕ} {x x' y y' z z' : List ℕ} → Reads p u x y z → Reads q v x' y' z'
      → (p ≡ q) × (u ≡ v) × (x ≡ x') × (y ≡ y') × (z ≡ z')
  patchy_read_one a b = (
    a.answer_is ∙ sym b.answer_is,
    a.left_is ∙ sym b.left_is,
    a.output_is ∙ sym b.output_is,
    a.scratch_is ∙ sym b.scratch_is,
    a.quality_is ∙ sym b.quality_is,
  )
