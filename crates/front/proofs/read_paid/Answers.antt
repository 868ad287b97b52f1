-- The charge ends the list where it is not covered; else the profile's answer goes with the units left.
use mathlib.Core.Path.{◌∙◌}
use borrow.Author.Rules.{rules}
use Rattle.checks.proofs.Rules.{handed_on}
use Rattle.checks.proofs.Leaving.{passed_on, refused_on}
use Rattle.front.proofs.Fronts.{unpaid, profile_refused, profile_fine}
use Rattle.front.proofs.read_paid.Goals as goal

pub returns-in_err-rest : goal.returns-in_err-rest
returns-in_err-rest c = handed_on c.from_residual.ensures.1 (unpaid _ _ _ _ _ _ c.in_err-rest.ensures)

pub returns-in_err-format : goal.returns-in_err-format
returns-in_err-format c =
    let (e, q, z) = refused_on c.in_ok-rest.rest (λ e k. search rules) c.in_err-format.ensures.cases in
    handed_on c.from_residual-in_err-format.ensures.1 (profile_refused _ _ _ _ _ _ c.in_ok-rest.ensures (q ∙ c.read_profile.ensures) z)

pub returns : goal.returns
returns c = profile_fine _ _ _ _ _ _ c.in_ok-rest.ensures (passed_on c.in_ok-format.ensures.cases ∙ c.read_profile.ensures)
