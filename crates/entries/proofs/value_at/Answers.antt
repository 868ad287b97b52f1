-- A word is read only where its bytes are.
use Rattle.checks.proofs.Rules.{handed_on}
use Rattle.entries.proofs.EntryValues.{value_refused, value_there, value_given}
use Rattle.entries.proofs.value_at.Goals as goal

pub returns-in_err-need : goal.returns-in_err-need
returns-in_err-need c =
    handed_on c.from_residual.ensures.1 (value_refused _ _ _ _ _ _ c.place_of-at.ensures c.size_of.ensures.0 c.in_err-need.ensures)

pub word_at-requires : goal.word_at-requires
word_at-requires c = value_there _ _ _ _ _ _ c.place_of-at.ensures c.size_of.ensures.0 c.in_ok-need.ensures c.requires.0

pub returns : goal.returns
returns c = value_given _ _ _ _ _ _ c.place_of-at.ensures c.size_of.ensures.0 c.in_ok-need.ensures c.word_at.ensures.0
