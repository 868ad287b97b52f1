-- Each return is one of the checks, and the picture is shown after the last.
use mathlib.Core.Path.{refl}
use native.Mathlib.Omega.{arith}
use Rattle.checks.proofs.Rules.{handed_on}
use Rattle.decoding.proofs.Claims.{showing, charged}
use Rattle.decoding.proofs.show_handle.Goals as goal

pub returns-then-output-handle-clause-answer : goal.returns-then-output-handle-clause-answer
returns-then-output-handle-clause-answer c = search showing

pub returns-in_err-rest-clause-answer : goal.returns-in_err-rest-clause-answer
returns-in_err-rest-clause-answer c = handed_on c.from_residual.ensures.1 (charged c.args.handle _ _ _ (omega arith) (omega arith) c.in_err-rest.ensures refl)

pub returns-clause-answer : goal.returns-clause-answer
returns-clause-answer c = charged c.args.handle _ _ _ (omega arith) (omega arith) c.in_ok-rest.ensures refl
