-- Refused it leaves all as it was; accepted it clears the map.
use borrow.Author.Rules.{rules}
use borrow.Author.Tests.{not-false}
use Rattle.receiver.proofs.Receiving.{start_refused, start_taken}
use Rattle.receiver.proofs.start.Goals as goal

pub returns-then-not-suffices : goal.returns-then-not-suffices
returns-then-not-suffices c = search (start_refused, rules)

pub returns : goal.returns
returns c = start_taken _ _ _ _ c.suffices.ensures (search (not-false, rules)) (search rules)
