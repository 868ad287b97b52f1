-- Each contract of the calls that read a file allows one result: two that meet it for the same lent things are equal.
use Prim.Native.Nat.{ℕ}
use mathlib.Core.Path.{◌≡◌, sym, ◌∙◌}
use mathlib.Core.List.{List}
use Rattle.header.specs.declared.Limits.{Limits}
use Rattle.chelmesut.specs.Face.{Inspect, Decode, ReadPatchy}

module _ (file : List ℕ) (page : ℕ) (l : Limits) where
  module _ (units : ℕ) (words : List ℕ) where
    abbrev Inspects : ℕ → ℕ → List ℕ → Type 0
    Inspects = Inspect file page l units words

    pub inspect_one : {n m u v : ℕ} {w w' : List ℕ} → Inspects n u w → Inspects m v w' → (n ≡ m) × (u ≡ v) × (w ≡ w')
    inspect_one a b = (a.number_is ∙ sym b.number_is, a.left_is ∙ sym b.left_is, a.words_are ∙ sym b.words_are)

  module _ (words : List ℕ) (units : ℕ) (output scratch : List ℕ) where
    abbrev Decodes : ℕ → ℕ → List ℕ → List ℕ → Type 0
    Decodes = Decode file page l words units output scratch

    pub decode_one : {n m u v : ℕ} {x x' y y' : List ℕ} → Decodes n u x y → Decodes m v x' y' → (n ≡ m) × (u ≡ v) × (x ≡ x') × (y ≡ y')
    decode_one a b = (
      a.number_is ∙ sym b.number_is,
      a.left_is ∙ sym b.left_is,
      a.output_is ∙ sym b.output_is,
      a.scratch_is ∙ sym b.scratch_is,
    )

  module _ (map : List ℕ) (units : ℕ) (output scratch quality words : List ℕ) where
    abbrev Reads : ℕ → ℕ → List ℕ → List ℕ → List ℕ → List ℕ → Type 0
    Reads = ReadPatchy file page l map units output scratch quality words

    pub read_patchy_one : {n m u v : ℕ} {x x' y y' z z' w w' : List ℕ} → Reads n u x y z w → Reads m v x' y' z' w'
        → (n ≡ m) × (u ≡ v) × (x ≡ x') × (y ≡ y') × (z ≡ z') × (w ≡ w')
    read_patchy_one a b = (
      a.number_is ∙ sym b.number_is,
      a.left_is ∙ sym b.left_is,
      a.output_is ∙ sym b.output_is,
      a.scratch_is ∙ sym b.scratch_is,
      a.quality_is ∙ sym b.quality_is,
      a.words_are ∙ sym b.words_are,
    )
