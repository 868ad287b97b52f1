-- What the inspection gives is compared; where it refuses, there is nothing to compare.
use Rattle.inspection.proofs.Inspecting.{none_given, compared}
use Rattle.inspection.proofs.is_handle.Goals as goal

pub returns-in-Ok : goal.returns-in-Ok
returns-in-Ok c = compared _ _ _ c.in-Ok.ensures c.same_handle.ensures

pub returns-in-Err : goal.returns-in-Err
returns-in-Err c = none_given _ _ _ c.in-Err.ensures
