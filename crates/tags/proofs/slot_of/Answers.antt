-- The first place of a tag in the table.
use mathlib.Core.Path.{◌∙◌}
use borrow.Author.Rules.{rules}
use borrow.Author.Tests.{tests}
use lib.Dec.{eqb}
use Rattle.std.proofs.lemmas.Iterator.{YieldsList-from_slice}
use Rattle.std.proofs.lemmas.Iterator.Search.{position_from_yields_List}
use Rattle.tags.specs.Slots.{known}
use Rattle.tags.proofs.Entries.{slot_found}
use Rattle.tags.proofs.slot_of.Goals as goal

pub returns : goal.returns
unfolding known
returns c =
    position_from_yields_List (λ x. eqb x c.args.tag) _ _ _ c.position.ensures.ran (YieldsList-from_slice known cc) (λ x b q k. search (rules, tests))
    ∙ slot_found c.args.tag
