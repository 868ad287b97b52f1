use Rattle.std.proofs.Common.{◌*◌}
use Rattle.lists.proofs.Rows.{Rowing}
use Rattle.fp_rows.specs.FpRows.{gathered_row}
use Rattle.fp_rows.proofs.gather_rows.Given as goal

abbrev pub invariant-loop-r : goal.invariant-loop-r
invariant-loop-r l = Rowing (gathered_row l.row l.bytes l.little) l.row l.row l.rows l.planes l.initial.out l.out l.r (l.r * l.row) (l.r * l.row)
