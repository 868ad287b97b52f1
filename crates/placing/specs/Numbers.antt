-- Numbers as bytes; what does not fit them is lost.
use Rattle.std.specs.Prelude.{ℕ, ◌/◌, ◌%◌, List, [], ◌∷◌}

-- in two bytes, the least significant first
abbrev pub little_of : ℕ → List ℕ
little_of n = n % 256 ∷ n / 256 % 256 ∷ []

-- in four bytes, the most significant first
abbrev pub big_of : ℕ → List ℕ
big_of n = n / 16777216 % 256 ∷ n / 65536 % 256 ∷ n / 256 % 256 ∷ n % 256 ∷ []
