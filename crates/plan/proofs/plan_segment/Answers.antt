-- The stored bytes are found first; then their scratch and their fee are held to the limits.
use Rattle.checks.proofs.Rules.{handed_on}
use Rattle.plan.proofs.Planning.{place_refused, room_short, fee_over, fee_fits}
use Rattle.plan.proofs.plan_segment.Goals as goal

pub returns-in_err-stored : goal.returns-in_err-stored
returns-in_err-stored c = handed_on c.from_residual.ensures.1 (place_refused _ _ _ _ c.in_err-stored.ensures)

pub returns-then-max_output-scratch_for : goal.returns-then-max_output-scratch_for
returns-then-max_output-scratch_for c =
    room_short _ _ _ _ c.in_ok-stored.ensures c.area_of-area.ensures.0 c.scratch_for.ensures.0 c.if-max_output-scratch_for.true

pub returns-in_err-fee : goal.returns-in_err-fee
returns-in_err-fee c =
    handed_on c.from_residual-in_err-fee.ensures.1
    (fee_over _ _ _ _ c.in_ok-stored.ensures c.area_of-area.ensures.0 c.scratch_for.ensures.0 c.if-max_output-scratch_for.false c.fee_of.ensures c.in_err-fee.ensures.value)

pub returns : goal.returns
returns c =
    fee_fits _ _ _ _ c.in_ok-stored.ensures c.area_of-area.ensures.0 c.scratch_for.ensures.0 c.if-max_output-scratch_for.false c.fee_of.ensures c.in_ok-fee.ensures.value
