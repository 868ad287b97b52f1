-- Each turn copies one byte more.
use Rattle.placing.proofs.Filled.{copied_more}
use Rattle.std.proofs.Common.{arith}
use Rattle.placing.proofs.copy.Goals as goal

pub loop-i-preserved : goal.loop-i-preserved
loop-i-preserved c = copied_more _ _ _ _ c.loop-i.invariant (omega arith)
