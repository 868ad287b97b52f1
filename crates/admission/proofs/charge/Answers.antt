-- A sum that is over is refused; else it is the one charge.
use Rattle.checks.proofs.Rules.{handed_on}
use Rattle.admission.proofs.Admitting.{work_over, work_charged}
use Rattle.admission.proofs.charge.Goals as goal

pub returns-in_err-work : goal.returns-in_err-work
returns-in_err-work c = handed_on c.from_residual.ensures.1 (work_over _ _ _ c.charge_all.ensures c.leaving.ensures c.in_err-work.ensures.value)

pub returns : goal.returns
returns c = work_charged _ _ _ c.charge_all.ensures c.leaving.result c.in_ok-work.ensures.value c.spend.ensures
