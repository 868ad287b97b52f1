-- The bits of the samples, then their format.
use Rattle.checks.proofs.Rules.{handed_on, refused_first, fine_first}
use Rattle.profile.specs.Profile.{step4}
use Rattle.arrays.proofs.check_depths.Goals as goal

pub returns-in_err-check_samples : goal.returns-in_err-check_samples
unfolding step4
returns-in_err-check_samples c = handed_on c.from_residual.ensures.1 (refused_first _ _ c.in_err-check_samples.ensures)

pub returns : goal.returns
unfolding step4
returns c = fine_first _ _ c.in_ok-check_samples.ensures c.check_samples-2.ensures
