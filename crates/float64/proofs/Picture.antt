-- The picture row by row: the generic writer of rows, at rows of eight bytes a sample.
use Prim.Native.Nat.{ℕ, ◌+◌, ◌-◌, ◌*◌, ◌<◌, ◌≤◌}
use mathlib.Core.Path.{◌≡◌, sym, ap, ◌∙◌}
use mathlib.Core.List.{List}
use mathlib.Core.Bool.{Bool, false}
use native.Mathlib.Omega.{arith}
use lib.ListN.{length}
use borrow.Rule.Slice.PartMut.{mid_of, put_mid}
use Rattle.lists.specs.Lists.{overlay}
use Rattle.lists.proofs.Rows.{Rowing, rowing_more, rowing_all, next_row}
use Rattle.rows64.specs.Rows64.{row64}
use Rattle.float64.specs.Float64.{samples}
use Rattle.float64.specs.Inner.{Fitting}
use Rattle.float64.proofs.Accepted.{row_size, all_columns}
use Rattle.rows64.specs.Inner.{plain_row}
use Rattle.rows64.proofs.Written.{row_length}
use Rattle.rows64.proofs.Plain.{rows_plain}

module _ (little predict : Bool) (w h ch reset : ℕ) (raw old : List ℕ) (p : Fitting w h ch reset (length raw) (length old)) where
  module _ (out : List ℕ) (y : ℕ)
      (s : Rowing (row64 little predict w ch reset) (w * (8 * ch)) (w * (8 * ch)) h raw old out y (y * (w * (8 * ch))) (y * (w * (8 * ch)))) where
    abbrev size : ℕ
    size = w * (8 * ch)

    abbrev at : ℕ
    at = y * (w * (8 * ch))

    pub rows_more : y < h → (ys : List ℕ) → ys ≡ row64 little predict w ch reset (mid_of at (at + size - at) raw)
        → Rowing (row64 little predict w ch reset) size size h raw old (put_mid at (at + size - at) out ys) (y + 1) ((y + 1) * size) ((y + 1) * size)
    rows_more t ys e =
        rw next_row
        (rowing_more _ _ _ _ _ _ _ _ _ _ s t ys e (rw e (row_length little predict w ch reset (mid_of at (at + size - at) raw) ∙ sym (row_size w ch))))

    pub rows_all : h ≤ y → out ≡ overlay (samples little predict w h ch reset raw) old
    unfolding samples
    rows_all t =
        rw (← row_size w ch)
        (rowing_all _ _ _ _ _ _ _ _ _ _ s t (λ xs l. row_length little predict w ch reset xs ∙ sym (row_size w ch)))

-- without prediction the rows are one row
one_row : (little : Bool) (w h ch reset : ℕ) (raw : List ℕ) → samples little false (w * h) 1 ch reset raw ≡ samples little false w h ch reset raw
unfolding samples
one_row little w h ch reset raw =
    let all : 1 * (w * h * ch) ≡ h * (w * ch) = omega (arith, all_columns w h ch) in
    rows_plain little (w * h) ch reset raw 1 ∙ ap (λ (n : ℕ). plain_row little n raw) all ∙ sym (rows_plain little w ch reset raw h)

pub plain_picture : (little predict : Bool) (w h ch reset : ℕ) (raw old out : List ℕ) → predict ≡ false
    → out ≡ overlay (samples little false (w * h) 1 ch reset raw) old
    → out ≡ overlay (samples little predict w h ch reset raw) old
plain_picture little predict w h ch reset raw old out t e = rw t (e ∙ ap (λ (new : List ℕ). overlay new old) (one_row little w h ch reset raw))
