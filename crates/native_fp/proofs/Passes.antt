-- The two passes one after the other: the second is lent the front of the buffer that the first one wrote.
use Prim.Native.Nat.{ℕ, ◌*◌, ◌/◌, ◌≤◌}
use mathlib.Core.Path.{◌≡◌, sym, ◌∙◌}
use mathlib.Core.List.{List}
use mathlib.Core.Bool.{Bool}
use native.Mathlib.Omega.{arith}
use borrow.Author.Rules.{rules}
use lib.ListN.{length, take}
use lib.Seq.{length-take-le, take_at}
use Rattle.lists.specs.Lists.{per_row, overlay}
use Rattle.lists.proofs.Rows.{per_row_length}
use Rattle.fp_rows.specs.FpRows.{summed_row, gathered_row}
use Rattle.native_fp.specs.NativeFp.{summed, gathered}
use Rattle.fp_rows.proofs.RowByRow.{summed_row_length}

module _ (row ch : ℕ) (raw : List ℕ) (whole : length raw / row * row ≡ length raw) where
  pub summed_length : length (summed row ch raw) ≡ length raw
  unfolding summed
  summed_length = per_row_length _ row row _ raw (omega arith) (λ xs l. summed_row_length row ch xs) ∙ whole

  -- what the second pass is lent: the front of the buffer that the first one wrote
  front : (old new : List ℕ) → new ≡ overlay (summed row ch raw) old → take (length raw) new ≡ summed row ch raw
  unfolding overlay
  front old new e = rw e (take_at (summed row ch raw) _ (length raw) summed_length)

  pub gathered_all : (bytes : ℕ) (little : Bool) (old new old' new' : List ℕ) → new ≡ overlay (per_row (summed_row row ch) row (length raw / row) raw) old
      → new' ≡ overlay (per_row (gathered_row row bytes little) row (length raw / row) (take (length raw) new)) old'
      → new' ≡ overlay (gathered row ch bytes little raw) old'
  unfolding summed gathered
  gathered_all bytes little old new old' new' e g = g ∙ rw (front old new e)

-- the part lent to it has the whole length, and so all its rows
pub front_long : (n : ℕ) (s : List ℕ) → n ≤ length s → n ≡ length (take n s)
front_long n s h = sym (length-take-le n s h)

pub front_rows : (n row : ℕ) (s : List ℕ) → n / row * row ≡ n → n ≤ length s → n / row * row ≤ length (take n s)
front_rows n row s e h = omega (arith, length-take-le n s h)

pub summed_all : (row ch : ℕ) (raw old new : List ℕ) → new ≡ overlay (per_row (summed_row row ch) row (length raw / row) raw) old
    → new ≡ overlay (summed row ch raw) old
unfolding summed
summed_all row ch raw old new e = e

pub ruleset passes = (front_long, front_rows, gathered_all, summed_all, rules)
