-- The limits and the map come first, and charge nothing.
use mathlib.Core.Path.{◌∙◌}
use borrow.Author.Rules.{rules}
use Rattle.checks.proofs.Rules.{handed_on}
use Rattle.checks.proofs.Leaving.{passed_on, refused_on}
use Rattle.seen.specs.Seen.{seen}
use Rattle.admission.proofs.Admitting.{limits_refused, map_refused, page_admitted}
use Rattle.admission.proofs.admit.Goals as goal

pub returns-in_err-map_err : goal.returns-in_err-map_err
returns-in_err-map_err c =
    let (e, q, z) = refused_on c.args.left (λ e k. search rules) c.in_err-map_err.ensures.cases in
    handed_on c.from_residual.ensures.1 (limits_refused (seen c.args.file.now c.args.map.now) _ _ _ _ _ (q ∙ c.check_limits.ensures) z)

pub returns-in_err-map_err-2 : goal.returns-in_err-map_err-2
returns-in_err-map_err-2 c =
    let (e, q, z) = refused_on c.args.left (λ e k. search rules) c.in_err-map_err-2.ensures.cases in
    handed_on c.from_residual-in_err-map_err-2.ensures.1
    (map_refused (seen c.args.file.now c.args.map.now) _ _ _ _ _ (passed_on c.in_ok-map_err.ensures.cases ∙ c.check_limits.ensures)
    (q ∙ c.check_map.ensures) z)

pub returns : goal.returns
returns c =
    page_admitted (seen c.args.file.now c.args.map.now) _ _ _ _ _ (passed_on c.in_ok-map_err.ensures.cases ∙ c.check_limits.ensures)
    (passed_on c.in_ok-map_err-2.ensures.cases ∙ c.check_map.ensures) c.admit_page.ensures
