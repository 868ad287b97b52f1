-- A place that is there costs its fee.
use Rattle.quality.proofs.Judging.{whole_fee}
use Rattle.quality.proofs.charge_of.Goals as goal

pub returns-in-Ok : goal.returns-in-Ok
returns-in-Ok c = whole_fee _ _ _ c.in-Ok.ensures c.area_of.ensures.0 c.fee_of.ensures
