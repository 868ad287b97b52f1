-- What the checks say is the answer; an accepted block has its place.
use mathlib.Core.Path.{sym, ◌∙◌}
use Rattle.receiver.proofs.Receiving.{block_refused, block_taken, block_has_place}
use Rattle.receiver.proofs.block.Goals as goal

pub place-requires : goal.place-requires
place-requires c = block_has_place _ _ _ _ _ c.admits-answer.ensures (sym c.is_ok.ensures.value ∙ c.if-is_ok.true)

pub returns-then-is_ok : goal.returns-then-is_ok
returns-then-is_ok c = block_taken _ _ _ _ _ c.admits-answer.ensures (sym c.is_ok.ensures.value ∙ c.if-is_ok.true) c.place.ensures

pub returns-else-is_ok : goal.returns-else-is_ok
returns-else-is_ok c = block_refused _ _ _ _ _ c.admits-answer.ensures (sym c.is_ok.ensures.value ∙ c.if-is_ok.false)
