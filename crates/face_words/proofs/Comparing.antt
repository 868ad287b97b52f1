-- Words compared one after the other are compared as the definition says.
use Prim.Native.Nat.{ℕ}
use mathlib.Core.Path.{◌≡◌, refl, ap}
use mathlib.Core.Bool.{Bool, ◌&&◌}
use mathlib.Core.List.{List, [], ◌∷◌}
use lib.Dec.{eqb}
use lib.Pointwise.{pointwise}
use Rattle.face_words.specs.Words.{same_words}

pub word_by_word : (a b : List ℕ) → pointwise eqb a b ≡ same_words a b
unfolding same_words
word_by_word [] [] = refl
word_by_word [] (y ∷ b) = refl
word_by_word (x ∷ a) [] = refl
word_by_word (x ∷ a) (y ∷ b) = ap (λ (t : Bool). eqb x y && t) (word_by_word a b)
