-- Where the bytes are, as the check tells it.
use Rattle.seen.proofs.Blocks.{need_inside, need_outside, need_missing}
use Rattle.seen.proofs.need.Goals as goal

pub returns-in-Inside : goal.returns-in-Inside
returns-in-Inside c = need_inside _ _ _ c.in-Inside.ensures

pub returns-in-Outside : goal.returns-in-Outside
returns-in-Outside c = need_outside _ _ _ c.in-Outside.ensures

pub returns-in-Missing : goal.returns-in-Missing
returns-in-Missing c = need_missing _ _ _ c.in-Missing.ensures
