-- Rows turned one after the other into rows of the same length.
use Rattle.std.proofs.Common.{◌≡◌, ℕ, ◌+◌, ◌-◌, ◌*◌, ◌<◌, ◌≤◌, Bool, List, length, ap, ◌∙◌, arith}
use borrow.Rule.Slice.PartMut.{mid_of, put_mid, mid_len}
use Rattle.lists.specs.Lists.{per_row, overlay}
use Rattle.lists.proofs.Overlay.{length_span}
use Rattle.lists.proofs.Rows.{Rowing, rowing_in, rowing_more, rowing_all, next_row}
use Rattle.fp_rows.specs.FpRows.{summed_row, gathered_row}

pub summed_row_length : (size ch : ℕ) (row : List ℕ) → length (summed_row size ch row) ≡ size
unfolding summed_row
summed_row_length size ch row = length_span _ 0 size

pub gathered_row_length : (size bytes : ℕ) (little : Bool) (row : List ℕ) → length (gathered_row size bytes little row) ≡ size
unfolding gathered_row
gathered_row_length size bytes little row = length_span _ 0 size

-- a row turned by its own length
module _ (f : ℕ → List ℕ → List ℕ) (fixed : (n : ℕ) (xs : List ℕ) → length (f n xs) ≡ n) (row rows : ℕ) (xs old out : List ℕ) (r : ℕ)
    (s : Rowing (f row) row row rows xs old out r (r * row) (r * row)) where
  pub rows_more : r < rows → (ys : List ℕ)
      → ys ≡ f (length (mid_of (r * row) (r * row + row - r * row) xs)) (mid_of (r * row) (r * row + row - r * row) xs)
      → Rowing (f row) row row rows xs old (put_mid (r * row) (r * row + row - r * row) out ys) (r + 1) ((r + 1) * row) ((r + 1) * row)
  rows_more h ys e =
      let turned = mid_of (r * row) (r * row + row - r * row) xs in
      let size : length turned ≡ row = mid_len (r * row) (r * row + row) xs (rowing_in _ _ _ _ _ _ _ _ _ _ s h) ∙ omega arith in
      let y : ys ≡ f row turned = e ∙ ap (λ (n : ℕ). f n turned) size in
      rw next_row (rowing_more _ _ _ _ _ _ _ _ _ _ s h ys y (ap length y ∙ fixed row turned))

  pub rows_all : rows ≤ r → out ≡ overlay (per_row (f row) row rows xs) old
  rows_all h = rowing_all _ row row rows xs old out r _ _ s h (λ ys l. fixed row ys)
