use Rattle.seen.specs.Seen.{seen}
use Rattle.profile.specs.Profile.{scalars}
use Rattle.scalars.proofs.ScalarSlots.{Passing}
use Rattle.scalars.proofs.check_scalars.Given as goal

abbrev pub invariant-loop-slot : goal.invariant-loop-slot
invariant-loop-slot l = Passing (seen l.file l.map) l.big l.slots scalars l.slot-index
