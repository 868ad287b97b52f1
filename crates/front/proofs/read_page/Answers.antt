-- The walk ends the list where it refuses; the entries of a page that was found are there, and its profile goes on.
use Rattle.checks.proofs.Rules.{handed_on}
use Rattle.front.proofs.Fronts.{page_refused, page_slots, page_found}
use Rattle.front.proofs.read_page.Goals as goal

pub returns-in_err-d : goal.returns-in_err-d
returns-in_err-d c = handed_on c.from_residual.ensures.1 (page_refused _ _ _ _ _ _ c.in_err-d.ensures)

pub read_paid-requires : goal.read_paid-requires
read_paid-requires c = page_slots _ _ _ _ c.args.limits _ c.in_ok-d.ensures

pub returns : goal.returns
returns c = page_found _ _ _ _ _ _ c.in_ok-d.ensures c.read_paid.ensures
