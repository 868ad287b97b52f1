use Rattle.fp_rows.proofs.Summing.{Summing}
use Rattle.fp_rows.proofs.sum_row.Given as goal

abbrev pub invariant-loop-i : goal.invariant-loop-i
invariant-loop-i l = Summing l.raw l.ch l.fn.out l.out l.i

abbrev pub invariant-loop-i-2 : goal.invariant-loop-i-2
invariant-loop-i-2 l = Summing l.raw l.ch l.fn.out l.out l.i
