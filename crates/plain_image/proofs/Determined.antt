-- Each call's contract allows one result: two that meet it for the same lent things are equal.
use Prim.Native.Nat.{ℕ}
use mathlib.Core.Path.{◌≡◌, sym, ◌∙◌}
use mathlib.Core.List.{List}
use Rattle.header.specs.declared.Limits.{Limits}
use Rattle.image_info.specs.declared.Info.{Info}
use Rattle.plain_image.specs.Image.{ImageInspected, ImageDecoded}

module _ (file : List ℕ) (page : ℕ) (l : Limits) (units : ℕ) where
  abbrev Inspects : Info → ℕ → Type 0
  Inspects = ImageInspected file page l units

  pub image_inspected_one : {i j : Info} {u v : ℕ} → Inspects i u → Inspects j v → (i ≡ j) × (u ≡ v)
  image_inspected_one a b = (a.info_is ∙ sym b.info_is, a.left_is ∙ sym b.left_is)

module _ (file : List ℕ) (i : Info) (output scratch : List ℕ) (units : ℕ) where
  abbrev Decodes : ℕ → ℕ → List ℕ → List ℕ → Type 0
  Decodes = ImageDecoded file i output scratch units

  pub image_decoded_one : {n m u v : ℕ} {x x' y y' : List ℕ} → Decodes n u x y → Decodes m v x' y' → (n ≡ m) × (u ≡ v) × (x ≡ x') × (y ≡ y')
  image_decoded_one a b = (
    a.number_is ∙ sym b.number_is,
    a.left_is ∙ sym b.left_is,
    a.output_is ∙ sym b.output_is,
    a.scratch_is ∙ sym b.scratch_is,
  )
