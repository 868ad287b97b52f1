-- The header ends the list where it refuses; where it passes, the walk goes on from its byte order and first directory.
use mathlib.Core.Path.{◌∙◌}
use borrow.Author.Rules.{rules}
use Rattle.checks.proofs.Rules.{handed_on}
use Rattle.checks.proofs.Leaving.{passed_on, refused_on}
use Rattle.front.proofs.Fronts.{header_refused, header_at}
use Rattle.front.proofs.read_format.Goals as goal

pub returns-in_err-start : goal.returns-in_err-start
returns-in_err-start c =
    let (e, q, z) = refused_on c.args.left (λ e k. search rules) c.in_err-start.ensures.cases in
    handed_on c.from_residual.ensures.1 (header_refused _ _ _ _ (q ∙ c.read_header.ensures) z)

pub returns : goal.returns
returns c = header_at _ _ _ _ (passed_on c.in_ok-start.ensures.cases ∙ c.read_header.ensures) c.read_page.ensures
