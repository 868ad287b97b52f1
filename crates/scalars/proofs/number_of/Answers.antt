-- The default of a slot that is absent.
use mathlib.Core.Path.{refl}
use Rattle.tags.specs.Slots.{defaults}
use Rattle.scalars.proofs.ScalarSlots.{number_absent, default_small}
use Rattle.scalars.proofs.number_of.Goals as goal

pub returns-then-slots-slot-eq0 : goal.returns-then-slots-slot-eq0
unfolding defaults
returns-then-slots-slot-eq0 c = (number_absent _ _ _ _ c.if-slots-slot-eq0.true refl, default_small _ c.requires.1)
