-- Where there is a segment, one that is over makes the product over.
use Rattle.checks.proofs.Sizes.{product3_none, product3_over, product3_is}
use Rattle.work_limit.proofs.segments_bound.Goals as goal

pub returns-then-max_segments-eq0 : goal.returns-then-max_segments-eq0
returns-then-max_segments-eq0 c = product3_none _ _ c.if-max_segments-eq0.true

pub returns-in_err-segment_bound : goal.returns-in_err-segment_bound
returns-in_err-segment_bound c = rw c.from_residual.ensures (product3_over _ _ c.if-max_segments-eq0.false c.in_err-segment_bound.ensures)

pub returns : goal.returns
returns c = product3_is _ _ _ c.in_ok-segment_bound.ensures c.product.ensures
