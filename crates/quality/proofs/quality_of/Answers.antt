-- A place that is not there is outside the file, or did not come.
use Rattle.quality.proofs.Judging.{is_outside, is_missing}
use Rattle.quality.proofs.quality_of.Goals as goal

pub returns-in-Err : goal.returns-in-Err
returns-in-Err c = is_outside _ _ _ c.in-Err.ensures c.if-eq.ensures

pub returns-in-Err-2 : goal.returns-in-Err-2
returns-in-Err-2 c = is_missing _ _ _ c.in-Err.ensures c.if-eq.ensures
