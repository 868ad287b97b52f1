-- Step 5, then step 6.
use Rattle.checks.proofs.Rules.{handed_on, refused_first, fine_first}
use Rattle.profile.specs.Inner.{layout_checks}
use Rattle.layout.proofs.check_layout.Goals as goal

pub returns-in_err-check_sides : goal.returns-in_err-check_sides
unfolding layout_checks
returns-in_err-check_sides c = handed_on c.from_residual.ensures.1 (refused_first _ _ c.in_err-check_sides.ensures)

pub returns : goal.returns
unfolding layout_checks
returns c = fine_first _ _ c.in_ok-check_sides.ensures c.check_tags.ensures
