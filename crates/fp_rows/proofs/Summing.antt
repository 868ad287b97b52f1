-- A row summed front to back: each byte of the result is the raw one and the result a channel's distance before it.
use Rattle.std.proofs.Common.{◌≡◌, ℕ, suc, ◌+◌, ◌-◌, ◌/◌, ◌%◌, ◌^◌, ◌<◌, ◌≤◌, List, length, get_or, set, sym, ◌∙◌, add-one, arith, rules}
use native.Mathlib.Nat.{div-eq_of_lt, div-eq-sub-div}
use Rattle.lists.specs.Sums.{summed_back}
use Rattle.lists.proofs.Sums.{sum_first, sum_step}
use Rattle.lists.proofs.Wrote.{Filling, filling_none, filling_more, filling_at, filling_exactly}
use Rattle.fp_rows.specs.FpRows.{summed_row}

-- byte n of the summed row
abbrev pub sum_at : List ℕ → ℕ → ℕ → ℕ
sum_at row ch n = summed_back 8 (λ i. get_or row i 0) ch n (n / ch)

pub record Summing (raw : List ℕ) (ch : ℕ) (old out : List ℕ) (i : ℕ) : Type 0 where
  pub wrote : Filling (sum_at raw ch) (length raw) old out i
  pub upto : i ≤ length raw
  pub long : length out ≡ length raw

pub summing_none : (raw : List ℕ) (ch : ℕ) (out : List ℕ) → length out ≡ length raw → Summing raw ch out out 0
summing_none raw ch out h = record { wrote = filling_none _ _ _ (omega arith); upto = omega arith; long = h }

module _ (raw : List ℕ) (ch : ℕ) (old out : List ℕ) (i : ℕ) (s : Summing raw ch old out i) where
  more : (v : ℕ) → i < length raw → v ≡ sum_at raw ch i → Summing raw ch old (set out i v) (i + 1)
  more v h e =
      let w = filling_more _ _ _ _ _ s.wrote v h e in
      record { wrote = w; upto = omega arith; long = w.long ∙ sym s.wrote.long ∙ s.long }

  -- a channel's first byte
  pub summing_first : i < ch → ch ≤ length raw → get_or raw i 0 < 2 ^ 8 → Summing raw ch old (set out i (get_or raw i 0)) (i + 1)
  summing_first h l b = more _ (omega arith) (rw (div-eq_of_lt h) (sum_first 8 (λ n. get_or raw n 0) ch i b))

  -- and a later one
  pub summing_later : (v : ℕ) → 0 < ch → ch ≤ i → i < length raw → v ≡ (get_or raw i 0 + get_or out (i - ch) 0) % 2 ^ 8
      → Summing raw ch old (set out i v) (i + 1)
  summing_later v p h l e =
      let q : i / ch ≡ suc ((i - ch) / ch) = div-eq-sub-div p h ∙ add-one _ in
      more v l (e ∙ rw (filling_at _ _ _ _ _ s.wrote (i - ch) (omega arith), sum_step 8 (λ n. get_or raw n 0) ch i ((i - ch) / ch), q))

  pub summing_all : length raw ≤ i → length old ≡ length raw → out ≡ summed_row (length raw) ch raw
  unfolding summed_row
  summing_all h l = filling_exactly _ _ _ _ _ s.wrote h l

pub ruleset sums = (summing_none, summing_first, summing_later, summing_all, rules)
