-- What inspection refuses is refused; what it gives can be shown, and each answer and buffer is that of the checks.
use Rattle.checks.proofs.Rules.{handed_on}
use Rattle.decoding.proofs.Claims.{not_inspected, inspected_showable, not_shown, shown_too}
use Rattle.logluv_tiff.proofs.read.Goals as goal

pub returns-in_err-found-clause-answer : goal.returns-in_err-found-clause-answer
returns-in_err-found-clause-answer c = handed_on c.from_residual.ensures.1 (not_inspected _ _ _ _ _ _ c.in_err-found.ensures)

pub show_inspected-requires : goal.show_inspected-requires
show_inspected-requires c = inspected_showable _ c.args.page c.args.limits c.args.left c.in_ok-found.ensures

pub returns-in_err-rest-clause-answer : goal.returns-in_err-rest-clause-answer
returns-in_err-rest-clause-answer c =
    handed_on c.from_residual-in_err-rest.ensures.1 (not_shown _ _ _ _ c.in_ok-found.ensures _ _ c.in_err-rest.ensures.answer)

pub returns-clause-answer : goal.returns-clause-answer
returns-clause-answer c = shown_too _ _ _ _ c.in_ok-found.ensures _ _ c.in_ok-rest.ensures.answer
