-- What `summed` and `gathered` show at each place: byte k of row r.
use Prim.Native.Nat.{ℕ, ◌+◌, ◌*◌, ◌/◌, ◌%◌, ◌<◌}
use mathlib.Core.Path.{◌≡◌, ◌∙◌}
use mathlib.Core.List.{List}
use mathlib.Core.Bool.{Bool, true, false}
use native.Mathlib.Omega.{arith}
use native.Mathlib.Nat.{mod-lt, div-lt_iff_lt-mul}
use lib.ListN.{length, take, drop, get_or}
use lib.Seq.{get_or-take, get_or-drop}
use Rattle.lists.specs.Sums.{summed_back}
use Rattle.lists.proofs.Overlay.{get_d_tabulate}
use Rattle.fp_rows.specs.FpRows.{plane, summed_row, gathered_row}
use Rattle.native_fp.specs.NativeFp.{summed, gathered}
use Rattle.lists.proofs.Counters.{exactly, grouped_in}
use Rattle.fp_rows.proofs.Gathering.{source}
use Rattle.lists.proofs.Rows.{per_row_at}
use Rattle.fp_rows.proofs.RowByRow.{summed_row_length, gathered_row_length}
use Rattle.native_fp.proofs.Passes.{summed_length}

plane_in : (little : Bool) (bytes b : ℕ) → b < bytes → plane little bytes b < bytes
plane_in true bytes b h = omega arith
plane_in false bytes b h = h

source_in : (little : Bool) (bytes row k : ℕ) → 0 < bytes → row % bytes ≡ 0 → k < row → source little bytes row k < row
source_in little bytes row k p e h =
    let w = exactly row bytes e in
    let s : k / bytes < row / bytes = (div-lt_iff_lt-mul {k = bytes} {x = k} {y = row / bytes} p).1 (omega arith) in
    omega (arith, grouped_in bytes (row / bytes) (plane little bytes (k % bytes)) (k / bytes) (plane_in little bytes (k % bytes) (mod-lt k p)) s)

module _ (row ch : ℕ) (raw : List ℕ) (whole : length raw / row * row ≡ length raw) (r k : ℕ) (in_rows : r < length raw / row) (in_row : k < row) where
  -- its byte and all those before it in its channel, summed
  pub summed_at : get_or (summed row ch raw) (r * row + k) 0 ≡ summed_back 8 (λ i. get_or (take row (drop (r * row) raw)) i 0) ch k (k / ch)
  unfolding summed summed_row
  summed_at = per_row_at _ row row _ raw (omega arith) (λ xs l. summed_row_length row ch xs) r k in_rows in_row ∙ get_d_tabulate _ row k in_row

  -- the summed byte of the same row at its source
  pub gathered_at : (bytes : ℕ) (little : Bool) → 0 < bytes → row % bytes ≡ 0
      → get_or (gathered row ch bytes little raw) (r * row + k) 0 ≡ get_or (summed row ch raw) (r * row + source little bytes row k) 0
  unfolding gathered gathered_row
  gathered_at bytes little p e =
      let room = summed_length row ch raw whole in
      per_row_at _ row row _ (summed row ch raw) (omega (arith, room)) (λ xs l. gathered_row_length row bytes little xs) r k in_rows in_row
      ∙ get_d_tabulate _ row k in_row
      ∙ get_or-take row (drop (r * row) (summed row ch raw)) (source little bytes row k) 0 (source_in little bytes row k p e in_row)
      ∙ get_or-drop (r * row) (summed row ch raw) (source little bytes row k) 0
