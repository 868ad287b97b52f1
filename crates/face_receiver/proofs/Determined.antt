-- A call's contract allows one result: two that meet it for the same lent things are equal.
use Prim.Native.Nat.{ℕ}
use mathlib.Core.Path.{◌≡◌, sym, ◌∙◌}
use mathlib.Core.List.{List}
use Rattle.receiver.specs.Receiver.{Reception}
use Rattle.face_receiver.specs.Reception.{ReceiverCall}
use Rattle.checks.specs.Numbers.{Verdict}

module _ (words : List ℕ) (answer : Verdict) (after : Reception) where
  pub receiver_call_one : {n m : ℕ} {x x' y y' z z' : List ℕ} → ReceiverCall words answer after n x y z → ReceiverCall words answer after m x' y' z'
      → (n ≡ m) × (x ≡ x') × (y ≡ y') × (z ≡ z')
  receiver_call_one a b = (
    a.number_is ∙ sym b.number_is,
    a.file_is ∙ sym b.file_is,
    a.map_is ∙ sym b.map_is,
    a.words_are ∙ sym b.words_are,
  )
