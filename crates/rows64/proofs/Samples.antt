-- What a sample is: its value, with the sample before it in its channel added where the sum goes on.
use Rattle.std.proofs.Common.{◌≡◌, ℕ, suc, ◌+◌, ◌-◌, ◌/◌, ◌%◌, ◌^◌, ◌<◌, Bool, true, false, List, sym, refl, ap, ◌∙◌, arith}
use Rattle.lists.specs.Sums.{summed_back}
use Rattle.lists.proofs.Sums.{sum_first, sum_step, sum_fits}
use Rattle.rows64.specs.Rows64.{value, sample}
use Rattle.lists.proofs.Counters.{turn_before}

-- The recurrence: without prediction a sample is its value; with it, where the column is a multiple of the reset width
-- it is its value, and elsewhere its value and the sample before it in its channel, modulo 2^64.
module _ (little : Bool) (ch reset : ℕ) (row : List ℕ) (n : ℕ) where
  pub sample_plain : sample little false ch reset row n ≡ value little row n
  unfolding sample
  sample_plain = refl

  pub sample_first : n / ch % reset ≡ 0 → value little row n < 2 ^ 64 → sample little true ch reset row n ≡ value little row n
  unfolding sample
  sample_first e h = rw e (sym (sum_first 64 (value little row) ch n h))

  pub sample_next : 0 < ch → 0 < reset → (n / ch % reset ≡ 0 → ⊥)
      → sample little true ch reset row n ≡ (value little row n + sample little true ch reset row (n - ch)) % 2 ^ 64
  unfolding sample
  sample_next a b some =
      let e : n / ch % reset ≡ suc (n / ch % reset - 1) = omega arith in
      let step = sym (sum_step 64 (value little row) ch n (n / ch % reset - 1)) in
      rw (turn_before n ch reset (n / ch % reset - 1) a b e) (ap (summed_back 64 (value little row) ch n) e ∙ step)

  pub sample_fits : sample little true ch reset row n < 2 ^ 64
  unfolding sample
  sample_fits = sum_fits 64 (value little row) ch n (n / ch % reset)
