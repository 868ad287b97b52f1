-- A row of predictor 64: each sample with the sum of those before it in its channel where prediction is asked for.
use Rattle.std.specs.Prelude.{ℕ, ◌*◌, ◌/◌, ◌%◌, Bool, List, take, drop}
use Rattle.lists.specs.Lists.{pick, joined}
use Rattle.lists.specs.Sums.{summed_back}
use Rattle.words64.specs.Words64.{digits, word}

-- the n-th word of a row
unfoldable pub value : Bool → List ℕ → ℕ → ℕ
value little row n = word little (take 8 (drop (8 * n) row))

-- the n-th sample: its column is n / ch, and the sum starts anew where the column is a multiple of the reset width (rule 9.3)
unfoldable pub sample : Bool → Bool → ℕ → ℕ → List ℕ → ℕ → ℕ
sample little predict ch reset row n =
    pick predict (summed_back 64 (value little row) ch n (n / ch % reset)) (value little row n)

-- a row: its samples, eight bytes each in little-endian (rule 9.2)
unfoldable pub row64 : Bool → Bool → ℕ → ℕ → ℕ → List ℕ → List ℕ
row64 little predict w ch reset row = joined (λ n. digits 8 (sample little predict ch reset row n)) 0 (w * ch)
