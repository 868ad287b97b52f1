use Rattle.placing.proofs.Filled.{Copied}
use Rattle.placing.proofs.copy.Given as goal

abbrev pub invariant-loop-i : goal.invariant-loop-i
invariant-loop-i l = Copied l.from l.fn.to l.to l.i
