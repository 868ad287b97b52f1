-- The slots so far are fine; the first that is not ends the step.
use Rattle.profile.specs.Profile.{scalars}
use Rattle.scalars.proofs.ScalarSlots.{scalar_rules}
use Rattle.scalars.proofs.check_scalars.Goals as goal

pub returns-then-not-is_fine : goal.returns-then-not-is_fine
unfolding scalars
returns-then-not-is_fine c = search scalar_rules

pub loop-slot-preserved : goal.loop-slot-preserved
unfolding scalars
loop-slot-preserved c = search scalar_rules
