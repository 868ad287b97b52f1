-- The segments so far passed; the first that is refused ends the list.
use native.Mathlib.Omega.{arith}
use Rattle.checks.proofs.Rules.{handed_on}
use Rattle.inspection.proofs.Inspecting.{checking_none, segment_refused, checking_more, checking_all}
use Rattle.inspection.proofs.check_segments.Goals as goal

pub loop-k-init : goal.loop-k-init
loop-k-init c = checking_none _ _ _ _

pub returns-in_err-rest : goal.returns-in_err-rest
returns-in_err-rest c = handed_on c.from_residual.ensures.1 (segment_refused _ _ _ _ _ _ c.loop-k.invariant (omega arith) c.in_err-rest.ensures)

pub loop-k-preserved : goal.loop-k-preserved
loop-k-preserved c = checking_more _ _ _ _ _ _ c.loop-k.invariant (omega arith) c.in_ok-rest.ensures

pub returns : goal.returns
returns c = checking_all _ _ _ _ _ _ c.loop-k.invariant (omega arith)
