-- A segment's refusal is the page's; after the last one the handle has the sum of the fees.
use Rattle.checks.proofs.Rules.{handed_on}
use Rattle.inspection.proofs.Inspecting.{segments_refused, took, segments_passed}
use Rattle.inspection.proofs.inspect_segments.Goals as goal

pub returns-in_err-rest : goal.returns-in_err-rest
returns-in_err-rest c = handed_on c.from_residual.ensures.1 (segments_refused _ _ _ _ _ c.in_err-rest.ensures)

pub handle_after-requires : goal.handle_after-requires
handle_after-requires c = (c.requires.valid, took _ _ c.args.max_output _ c.in_ok-rest.ensures)

pub returns : goal.returns
returns c = segments_passed _ _ _ _ c.in_ok-rest.ensures _ c.handle_after.ensures
