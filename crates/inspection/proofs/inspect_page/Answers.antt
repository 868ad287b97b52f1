-- The front part ends the list where it refuses; the format that it finds can be read, and its segments go on.
use Rattle.checks.proofs.Rules.{handed_on}
use Rattle.inspection.proofs.Inspecting.{front_refused, format_readable, format_inspected}
use Rattle.inspection.proofs.inspect_page.Goals as goal

pub returns-in_err-found : goal.returns-in_err-found
returns-in_err-found c = handed_on c.from_residual.ensures.1 (front_refused _ _ _ _ c.in_err-found.ensures)

pub inspect_segments-requires : goal.inspect_segments-requires
inspect_segments-requires c = format_readable _ c.args.page c.args.limits c.args.left c.in_ok-found.ensures

pub returns : goal.returns
returns c = format_inspected _ _ _ _ c.in_ok-found.ensures c.inspect_segments.ensures
