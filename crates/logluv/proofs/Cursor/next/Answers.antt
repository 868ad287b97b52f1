-- The packet at hand has a byte, which is the first of what is ahead.
use Rattle.logluv.proofs.Steps.{step_run, step_literal}
use Rattle.logluv.proofs.Cursor.next.Goals as goal

pub returns-then-not-self : goal.returns-then-not-self
returns-then-not-self c = step_literal _ _ _ c.ready.ensures c.if-not-self.true

pub returns-else-not-self : goal.returns-else-not-self
returns-else-not-self c = step_run _ _ _ c.ready.ensures c.if-not-self.false
