-- A row of predictor 3, by TIFF Technical Note 3: its bytes summed at the distance of the channels, and its planes gathered into samples.
use Rattle.std.specs.Prelude.{ℕ, ◌+◌, ◌-◌, ◌*◌, ◌/◌, ◌%◌, Bool, List, slice_index}
use Rattle.lists.specs.Lists.{pick, tabulate}
use Rattle.lists.specs.Sums.{summed_back}

-- a row's bytes, each with those before it in its channel, modulo 256 (rule 9.5)
unfoldable pub summed_row : ℕ → ℕ → List ℕ → List ℕ
summed_row size ch row = tabulate size (λ n. summed_back 8 (λ i. slice_index row i) ch n (n / ch))

-- byte b of sample s lies in the plane of its significance; the planes come most significant first (rule 9.5)
abbrev pub plane : Bool → ℕ → ℕ → ℕ
plane little bytes b = pick little (bytes - 1 - b) b

unfoldable pub gathered_row : ℕ → ℕ → Bool → List ℕ → List ℕ
gathered_row size bytes little row =
    tabulate size (λ k. slice_index row (plane little bytes (k % bytes) * (size / bytes) + k / bytes))
