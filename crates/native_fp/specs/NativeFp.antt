-- Predictor 3, by TIFF Technical Note 3: bytes summed along each row at the distance of the channels, then planes gathered into samples.
use Rattle.std.specs.Prelude.{ℕ, ◌*◌, ◌/◌, ◌%◌, List, [], ◌∷◌, Bool, true, length, ltb, leb, eqb}
use Rattle.lists.specs.Lists.{pick, per_row}
use Rattle.fp_rows.specs.FpRows.{summed_row, gathered_row}
use Rattle.checks.specs.Numbers.{invalid, unsupported, output_too_small}
use Rattle.checks.specs.Checks.{Check, must}

-- the whole input, row by row (rule 9.5)
unfoldable pub summed : ℕ → ℕ → List ℕ → List ℕ
summed size ch raw = per_row (summed_row size ch) size (length raw / size) raw

unfoldable pub gathered : ℕ → ℕ → ℕ → Bool → List ℕ → List ℕ
gathered size ch bytes little raw = per_row (gathered_row size bytes little) size (length raw / size) (summed size ch raw)

abbrev pub sample_bytes : ℕ → Bool
sample_bytes n = pick (eqb n 2) true (pick (eqb n 3) true (pick (eqb n 4) true (eqb n 8)))

-- what is refused, in order (rule 9.4)
abbrev pub fp_checks : ℕ → ℕ → ℕ → ℕ → ℕ → ℕ → List Check
fp_checks row ch bytes raw scratch out =
    must (sample_bytes bytes) unsupported ∷
    must (ltb 0 ch) unsupported ∷ must (leb ch 64) unsupported ∷ must (ltb 0 row) unsupported ∷
    must (eqb (row % (ch * bytes)) 0) invalid ∷ must (eqb (raw % row) 0) invalid ∷
    must (leb raw out) output_too_small ∷ must (leb raw scratch) output_too_small ∷ []
