-- The bound on what an inspection charges: each partial result is at most the whole, so where one is over the whole is.
use Prim.Native.Nat.{ℕ, ◌+◌, ◌*◌, ◌≤◌}
use mathlib.Core.Path.{◌≡◌, refl, ap, ◌∙◌}
use native.Mathlib.Omega.{arith}
use native.Mathlib.Nat.{mul_comm, le-mul_of_pos_right}
use Rattle.checks.specs.Sizes.{within}
use Rattle.checks.proofs.Sizes.{over_part, fits_is}
use Rattle.header.specs.declared.Limits.{Limits}
use Rattle.std.specs.Prelude.{Option, Some, None}
use Rattle.work_limit.specs.WorkLimit.{work_bound}

-- a partial result that is over makes the whole over; one that is not is the number
pub over_in : {r : Option ℕ} {part : ℕ} (whole : ℕ) → r ≡ None → None ≡ within part → part ≤ whole → r ≡ within whole
over_in {r} {part} whole q e h = q ∙ over_part part whole e refl h

known : {n m : ℕ} → Some m ≡ within n → m ≡ n
known {n} {m} e = (fits_is n m e refl).is

-- directories times the fee of one, and the profile
module _ (page tags : ℕ) where
  pub directories_most : page + 1 ≤ (page + 1) * (tags + 1) + 128
  directories_most = omega (arith, le-mul_of_pos_right {m = tags + 1} (page + 1) (omega arith))

  pub fee_most : tags + 1 ≤ (page + 1) * (tags + 1) + 128
  fee_most = omega (arith, le-mul_of_pos_right {m = page + 1} (tags + 1) (omega arith), mul_comm (page + 1) (tags + 1))

module _ (page tags : ℕ) {directories fee : ℕ} (a : Some directories ≡ within (page + 1)) (b : Some fee ≡ within (tags + 1)) where
  walk_is : directories * fee ≡ (page + 1) * (tags + 1)
  walk_is = rw (known a, known b)

  pub walk_most : directories * fee ≤ (page + 1) * (tags + 1) + 128
  walk_most = omega (arith, walk_is)

  pub front_is : {r : Option ℕ} {walk : ℕ} → Some walk ≡ within (directories * fee) → r ≡ within (walk + 128)
      → r ≡ within ((page + 1) * (tags + 1) + 128)
  front_is c e = e ∙ ap (λ (x : ℕ). within (x + 128)) (known c ∙ walk_is)

-- one segment
module _ (input output : ℕ) {twice : ℕ} (a : Some twice ≡ within (2 * output)) where
  pub most_most : input + twice ≤ input + 2 * output + 1
  most_most = omega (arith, known a)

  pub segment_is : {r : Option ℕ} {most : ℕ} → Some most ≡ within (input + twice) → r ≡ within (most + 1) → r ≡ within (input + 2 * output + 1)
  segment_is b e = let n = known b in let m = known a in rw (n, m) at e

-- the two parts
module _ (page : ℕ) (l : Limits) where
  pub front_most : (page + 1) * (l.max_tags + 1) + 128 ≤ work_bound page l
  unfolding work_bound
  front_most = omega arith

  pub segments_most : l.max_segments * (l.max_input + 2 * l.max_output + 1) ≤ work_bound page l
  unfolding work_bound
  segments_most = omega arith

  pub bound_is : {r : Option ℕ} {front segments : ℕ} → Some front ≡ within ((page + 1) * (l.max_tags + 1) + 128)
      → Some segments ≡ within (l.max_segments * (l.max_input + 2 * l.max_output + 1)) → r ≡ within (front + segments)
      → r ≡ within (work_bound page l)
  unfolding work_bound
  bound_is a b e = let n = known a in let m = known b in rw (n, m) at e
