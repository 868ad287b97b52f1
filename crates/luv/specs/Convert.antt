-- What the conversion of planes into a lent buffer is checked for, in order (rule 6.8).
use Rattle.std.specs.Prelude.{ℕ, ◌*◌, List, [], ◌∷◌, leb}
use Rattle.head.specs.Heads.{Head, planes_of, bytes_of}
use Rattle.checks.specs.Numbers.{truncated, limit, output_too_small}
use Rattle.checks.specs.Checks.{Check, must}
use Rattle.checks.specs.Sizes.{most64}

abbrev pub convert_checks : Head → ℕ → ℕ → ℕ → ℕ → List Check
convert_checks head w rows planes out =
    must (leb (rows * (bytes_of head * w)) most64) limit ∷
    must (leb (rows * (planes_of head * w)) planes) truncated ∷
    must (leb (rows * (bytes_of head * w)) out) output_too_small ∷ []
