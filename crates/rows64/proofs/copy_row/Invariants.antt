use Rattle.rows64.proofs.Plain.{Copying}
use Rattle.rows64.proofs.copy_row.Given as goal

abbrev pub invariant-loop-i : goal.invariant-loop-i
invariant-loop-i l = Copying l.little l.samples l.raw l.initial.out l.out l.i
