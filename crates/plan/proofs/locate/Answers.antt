-- The two entries are read in their order, then the range is asked for.
use Rattle.checks.proofs.Rules.{handed_on}
use Rattle.plan.proofs.Planning.{offset_refused, count_refused, range_refused, range_fine}
use Rattle.plan.proofs.locate.Goals as goal

pub returns-in_err-offset : goal.returns-in_err-offset
returns-in_err-offset c = handed_on c.from_residual.ensures.1 (offset_refused _ _ _ c.in_err-offset.ensures)

pub returns-in_err-count : goal.returns-in_err-count
returns-in_err-count c = handed_on c.from_residual-in_err-count.ensures.1 (count_refused _ _ _ c.in_ok-offset.ensures c.in_err-count.ensures)

pub returns-in_err-need : goal.returns-in_err-need
returns-in_err-need c = handed_on c.from_residual-in_err-need.ensures.1 (range_refused _ _ _ c.in_ok-offset.ensures c.in_ok-count.ensures c.in_err-need.ensures)

pub returns : goal.returns
returns c = range_fine _ _ _ c.in_ok-offset.ensures c.in_ok-count.ensures c.in_ok-need.ensures
