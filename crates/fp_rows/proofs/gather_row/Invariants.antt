use Rattle.std.proofs.Common.{◌+◌, ◌*◌}
use Rattle.fp_rows.proofs.Gathering.{Gathering}
use Rattle.fp_rows.proofs.gather_row.Given as goal

abbrev pub invariant-loop-s : goal.invariant-loop-s
invariant-loop-s l = Gathering l.planes l.bytes l.little l.out (l.s * l.bytes)

abbrev pub invariant-loop-b : goal.invariant-loop-b
invariant-loop-b l = Gathering l.planes l.bytes l.little l.out (l.s * l.bytes + l.b)
