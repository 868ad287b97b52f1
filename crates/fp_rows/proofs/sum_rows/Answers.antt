-- Each turn sums one row into its place.
use Rattle.fp_rows.specs.FpRows.{summed_row}
use Rattle.fp_rows.proofs.RowByRow.{summed_row_length, rows_more, rows_all}
use Rattle.fp_rows.proofs.sum_rows.Goals as goal

pub loop-r-preserved : goal.loop-r-preserved
loop-r-preserved c = let ch = c.args.ch in
    rows_more (λ n. summed_row n ch) (λ n. summed_row_length n ch) _ _ _ _ _ _ c.loop-r.invariant c.loop-r-test.true _ c.sum_row.ensures

pub returns : goal.returns
returns c = let ch = c.args.ch in
    rows_all (λ n. summed_row n ch) (λ n. summed_row_length n ch) _ _ _ _ _ _ c.loop-r.invariant c.loop-r-test.false
