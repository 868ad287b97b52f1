-- Step 2, then step 3.
use Rattle.checks.proofs.Rules.{handed_on, refused_first, fine_first}
use Rattle.profile.specs.Inner.{number_checks}
use Rattle.layout.proofs.check_numbers.Goals as goal

pub returns-in_err-check_kind : goal.returns-in_err-check_kind
unfolding number_checks
returns-in_err-check_kind c = handed_on c.from_residual.ensures.1 (refused_first _ _ c.in_err-check_kind.ensures)

pub returns : goal.returns
unfolding number_checks
returns c = fine_first _ _ c.in_ok-check_kind.ensures c.check_plain.ensures
