-- The buffers, which charge nothing, then the charge.
use mathlib.Core.Path.{◌∙◌}
use borrow.Author.Rules.{rules}
use Rattle.checks.proofs.Rules.{handed_on}
use Rattle.checks.proofs.Leaving.{passed_on, refused_on}
use Rattle.admission.proofs.Admitting.{room_refused, charge_refused, charge_passed}
use Rattle.admission.proofs.admit_format.Goals as goal

pub returns-in_err-map_err : goal.returns-in_err-map_err
returns-in_err-map_err c =
    let (e, q, z) = refused_on c.args.left (λ e k. search rules) c.in_err-map_err.ensures.cases in
    handed_on c.from_residual.ensures.1 (room_refused _ _ _ _ _ (q ∙ c.check_room.ensures) z)

pub returns-in_err-rest : goal.returns-in_err-rest
returns-in_err-rest c =
    handed_on c.from_residual-in_err-rest.ensures.1
    (charge_refused _ _ _ _ _ (passed_on c.in_ok-map_err.ensures.cases ∙ c.check_room.ensures) c.in_err-rest.ensures)

pub returns : goal.returns
returns c = charge_passed _ _ _ _ _ (passed_on c.in_ok-map_err.ensures.cases ∙ c.check_room.ensures) c.in_ok-rest.ensures
