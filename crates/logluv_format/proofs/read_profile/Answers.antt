-- Step 1 ends the list where it refuses; where it passes, the others go on with the numbers that were read.
use Rattle.checks.proofs.Rules.{handed_on}
use Rattle.logluv_format.proofs.Formats.{scalars_refused, scalars_fine}
use Rattle.logluv_format.proofs.read_profile.Goals as goal

pub returns-in_err-check_scalars : goal.returns-in_err-check_scalars
returns-in_err-check_scalars c = handed_on c.from_residual.ensures.1 (scalars_refused _ _ _ _ _ c.in_err-check_scalars.ensures)

pub returns : goal.returns
returns c = scalars_fine _ _ _ _ _ c.in_ok-check_scalars.ensures c.read_numbers-n.ensures c.read_samples.ensures
