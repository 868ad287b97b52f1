-- What only the code's own functions leave: the answer of the tests of a number, and the number of entries where they and the next offset are there.
use Rattle.std.specs.Prelude.{ℕ, List, [], ◌∷◌, ◌++◌, Bool, Result, ltb, leb}
use Rattle.checks.specs.Numbers.{invalid, limit}
use Rattle.checks.specs.Checks.{Check, must, verdict, giving}
use Rattle.checks.specs.declared.Refusal.{Refusal}
use Rattle.seen.specs.Seen.{Seen}
use Rattle.directory.specs.Directory.{entries_at, count_checks, body_checks}

abbrev pub number_checks : ℕ → ℕ → List Check
number_checks n maxTags = must (ltb 0 n) invalid ∷ must (leb n maxTags) limit ∷ []

abbrev pub counted : Seen → Bool → ℕ → ℕ → Result ℕ Refusal
counted v big maxTags at = giving (verdict (count_checks v big maxTags at ++ body_checks v big at)) (entries_at v big at)
