-- Predictor 64: the rows of a picture one after the other, and its checks.
use Rattle.std.specs.Prelude.{ℕ, ◌*◌, List, [], ◌∷◌, Bool, ltb, leb}
use Rattle.lists.specs.Lists.{per_row}
use Rattle.checks.specs.Numbers.{truncated, invalid, unsupported, limit, output_too_small}
use Rattle.checks.specs.Checks.{Check, must}
use Rattle.checks.specs.Sizes.{most64}
use Rattle.rows64.specs.Rows64.{row64}

-- the picture: h rows of w × ch samples (rule 9.2)
unfoldable pub samples : Bool → Bool → ℕ → ℕ → ℕ → ℕ → List ℕ → List ℕ
samples little predict w h ch reset raw = per_row (row64 little predict w ch reset) (8 * (w * ch)) h raw

-- how many bytes the samples take
abbrev pub size64 : ℕ → ℕ → ℕ → ℕ
size64 w h ch = h * (8 * (w * ch))

-- what is refused, in order (rule 9.1)
abbrev pub checks64 : ℕ → ℕ → ℕ → ℕ → ℕ → ℕ → List Check
checks64 w h ch reset raw out =
    must (ltb 0 ch) unsupported ∷ must (leb ch 4) unsupported ∷
    must (ltb 0 w) invalid ∷ must (ltb 0 h) invalid ∷ must (ltb 0 reset) invalid ∷
    must (leb (size64 w h ch) most64) limit ∷
    must (leb (size64 w h ch) raw) truncated ∷
    must (leb (size64 w h ch) out) output_too_small ∷ []
