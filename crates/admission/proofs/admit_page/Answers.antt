-- The front part ends the list where it refuses; the format that it finds can be read, and its buffers go on.
use Rattle.checks.proofs.Rules.{handed_on}
use Rattle.admission.proofs.Admitting.{front_refused, format_readable, format_admitted}
use Rattle.admission.proofs.admit_page.Goals as goal

pub returns-in_err-found : goal.returns-in_err-found
returns-in_err-found c = handed_on c.from_residual.ensures.1 (front_refused _ _ _ _ _ c.in_err-found.ensures)

pub admit_format-requires : goal.admit_format-requires
admit_format-requires c = format_readable _ c.args.page c.args.limits c.args.room c.args.left c.in_ok-found.ensures

pub returns : goal.returns
returns c = format_admitted _ _ _ _ _ c.in_ok-found.ensures c.admit_format.ensures
