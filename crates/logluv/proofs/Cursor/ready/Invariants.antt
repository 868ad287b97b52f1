use Rattle.logluv.specs.Inner.{ahead, SoundCursor}
use lib.ListN.{length}
use mathlib.Core.Path.{◌≡◌}
use Prim.Native.Nat.{◌-◌, ◌<◌}
use Rattle.logluv.proofs.Cursor.ready.Given as goal

abbrev pub invariant-loop-self : goal.invariant-loop-self
invariant-loop-self l = SoundCursor l.p l.self × (ahead l.p l.self ≡ ahead l.p l.initial.self) × (0 < length (ahead l.p l.self))

abbrev pub decreases-loop-self : goal.decreases-loop-self
decreases-loop-self l = length l.p - l.self.at
