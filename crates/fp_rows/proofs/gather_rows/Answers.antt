-- Each turn gathers one row of whole samples into its place.
use Rattle.fp_rows.specs.FpRows.{gathered_row}
use Rattle.fp_rows.proofs.RowByRow.{gathered_row_length, rows_more, rows_all}
use Rattle.fp_rows.proofs.gather_rows.Goals as goal

pub loop-r-preserved : goal.loop-r-preserved
loop-r-preserved c = let b = c.args.bytes in let l = c.args.little in
    rows_more (λ n. gathered_row n b l) (λ n. gathered_row_length n b l) _ _ _ _ _ _ c.loop-r.invariant c.loop-r-test.true _ c.gather_row.ensures

pub returns : goal.returns
returns c = let b = c.args.bytes in let l = c.args.little in
    rows_all (λ n. gathered_row n b l) (λ n. gathered_row_length n b l) _ _ _ _ _ _ c.loop-r.invariant c.loop-r-test.false
