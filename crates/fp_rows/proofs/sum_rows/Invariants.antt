use Rattle.std.proofs.Common.{◌*◌}
use Rattle.lists.proofs.Rows.{Rowing}
use Rattle.fp_rows.specs.FpRows.{summed_row}
use Rattle.fp_rows.proofs.sum_rows.Given as goal

abbrev pub invariant-loop-r : goal.invariant-loop-r
invariant-loop-r l = Rowing (summed_row l.row l.ch) l.row l.row l.rows l.raw l.initial.scratch l.scratch l.r (l.r * l.row) (l.r * l.row)
