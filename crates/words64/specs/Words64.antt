-- Eight bytes as a number of 64 bits.
use Rattle.std.specs.Prelude.{ℕ, zero, suc, ◌+◌, ◌*◌, ◌/◌, ◌%◌, List, [], ◌∷◌, reverse, Bool}
use Rattle.lists.specs.Lists.{pick}

-- the number that bytes stand for, the least significant first, and back
unfoldable pub number_from : List ℕ → ℕ
number_from [] = 0
number_from (b ∷ bs) = b + 256 * number_from bs

unfoldable pub digits : ℕ → ℕ → List ℕ
digits zero v = []
digits (suc k) v = v % 256 ∷ digits k (v / 256)

-- eight bytes in the byte order that is named (rule 9.2)
unfoldable pub word : Bool → List ℕ → ℕ
word little bs = number_from (pick little bs (reverse bs))
