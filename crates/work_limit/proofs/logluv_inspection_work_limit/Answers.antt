-- The sum of the two parts; where one of them is over the sum is.
use Rattle.work_limit.proofs.Bounds.{over_in, front_most, segments_most, bound_is}
use Rattle.work_limit.proofs.logluv_inspection_work_limit.Goals as goal

pub returns-in_err-front : goal.returns-in_err-front
returns-in_err-front c = over_in _ c.from_residual.ensures c.in_err-front.ensures (front_most _ _)

pub returns-in_err-segments : goal.returns-in_err-segments
returns-in_err-segments c = over_in _ c.from_residual-in_err-segments.ensures c.in_err-segments.ensures (segments_most _ _)

pub returns : goal.returns
returns c = bound_is _ _ c.in_ok-front.ensures c.in_ok-segments.ensures c.sum.ensures
