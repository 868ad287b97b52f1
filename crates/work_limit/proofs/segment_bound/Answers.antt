-- Twice the output, and that with the input, are at most the whole.
use native.Mathlib.Omega.{arith}
use Rattle.work_limit.proofs.Bounds.{over_in, most_most, segment_is}
use Rattle.work_limit.proofs.segment_bound.Goals as goal

pub returns-in_err-twice : goal.returns-in_err-twice
returns-in_err-twice c = over_in _ c.from_residual.ensures c.in_err-twice.ensures (omega arith)

pub returns-in_err-sum : goal.returns-in_err-sum
returns-in_err-sum c = over_in _ c.from_residual-in_err-sum.ensures c.in_err-sum.ensures (most_most _ _ c.in_ok-twice.ensures)

pub returns : goal.returns
returns c = segment_is _ _ c.in_ok-twice.ensures c.in_ok-sum.ensures c.sum-2.ensures
