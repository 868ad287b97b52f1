-- What is told of the segments' quality codes and of a map's bytes: how many there are of each, and the line that a person reads.
use Rattle.std.specs.Prelude.{ℕ, ◌+◌, ◌-◌, ◌*◌, ◌/◌, ◌%◌, List, [], ◌∷◌, get_or, ltb, eqb}
use Rattle.lists.specs.Lists.{pick}

abbrev pub same_of : ℕ → ℕ → ℕ
same_of x y = pick (eqb x y) 1 0

-- how many elements of a list are x
unfoldable pub tally_of : ℕ → List ℕ → ℕ
tally_of x [] = 0
tally_of x (y ∷ ys) = same_of y x + tally_of x ys

-- a dot for good, the digit of any other code, and a question mark for what is no digit
abbrev pub mark_of : ℕ → ℕ
mark_of code = pick (eqb code 1) 46 (pick (ltb code 10) (48 + code) 63)

-- the character at a place of a line: ten marks, a space, ten marks, and so on
unfoldable pub char_at : List ℕ → ℕ → ℕ
char_at codes p = pick (eqb (p % 11) 10) 32 (mark_of (get_or codes (p / 11 * 10 + p % 11) 0))

-- the length of a line of n marks, which ends with a mark
abbrev pub line_length : ℕ → ℕ
line_length n = n + (n - 1) / 10
