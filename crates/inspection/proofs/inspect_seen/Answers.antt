-- The limits come first, and charge nothing.
use mathlib.Core.Path.{◌∙◌}
use borrow.Author.Rules.{rules}
use Rattle.checks.proofs.Rules.{handed_on}
use Rattle.checks.proofs.Leaving.{passed_on, refused_on}
use Rattle.seen.specs.Seen.{seen}
use Rattle.inspection.proofs.Inspecting.{limits_refused, limits_passed}
use Rattle.inspection.proofs.inspect_seen.Goals as goal

pub returns-in_err-map_err : goal.returns-in_err-map_err
returns-in_err-map_err c =
    let (e, q, z) = refused_on c.args.left (λ e k. search rules) c.in_err-map_err.ensures.cases in
    handed_on c.from_residual.ensures.1 (limits_refused (seen c.args.file.now c.args.map.now) _ _ _ (q ∙ c.check_limits.ensures) z)

pub returns : goal.returns
returns c =
    limits_passed (seen c.args.file.now c.args.map.now) _ _ _ (passed_on c.in_ok-map_err.ensures.cases ∙ c.check_limits.ensures) c.inspect_page.ensures
