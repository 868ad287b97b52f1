-- The plan charges nothing, so a refusal leaves the units, and a plan leads on to the fee.
use mathlib.Core.Path.{◌∙◌}
use borrow.Author.Rules.{rules}
use Rattle.checks.proofs.Rules.{handed_on}
use Rattle.checks.proofs.Leaving.{passed_on, refused_on}
use Rattle.logluv_segment.proofs.Checking.{plan_refused, plan_in_file, fee_refused, packets_refused, packets_fine}
use Rattle.logluv_segment.proofs.check_segment.Goals as goal

pub returns-in_err-plan : goal.returns-in_err-plan
returns-in_err-plan c =
    let (e, q, z) = refused_on c.args.left (λ e k. search rules) c.in_err-plan.ensures.cases in
    handed_on c.from_residual.ensures.1 (plan_refused _ _ _ _ _ _ (q ∙ c.plan_segment.ensures) z)

pub returns-in_err-rest : goal.returns-in_err-rest
returns-in_err-rest c =
    let planned = passed_on c.in_ok-plan.ensures.cases ∙ c.plan_segment.ensures in
    handed_on c.from_residual-in_err-rest.ensures.1 (fee_refused _ _ _ _ _ _ planned c.in_err-rest.ensures)

pub check_packets-requires : goal.check_packets-requires
check_packets-requires c =
    let planned = passed_on c.in_ok-plan.ensures.cases ∙ c.plan_segment.ensures in
    plan_in_file _ _ _ _ _ c.args.left planned c.requires.0 c.requires.1

pub returns-in_err-map_err : goal.returns-in_err-map_err
returns-in_err-map_err c =
    let planned = passed_on c.in_ok-plan.ensures.cases ∙ c.plan_segment.ensures in
    let (e, q, z) = refused_on c.in_ok-rest.rest (λ e k. search rules) c.in_err-map_err.ensures.cases in
    handed_on c.from_residual-in_err-map_err.ensures.1 (packets_refused _ _ _ _ _ _ planned c.in_ok-rest.ensures (q ∙ c.check_packets.ensures) z)

pub returns : goal.returns
returns c =
    let planned = passed_on c.in_ok-plan.ensures.cases ∙ c.plan_segment.ensures in
    packets_fine _ _ _ _ _ _ planned c.in_ok-rest.ensures (passed_on c.in_ok-map_err.ensures.cases ∙ c.check_packets.ensures)
