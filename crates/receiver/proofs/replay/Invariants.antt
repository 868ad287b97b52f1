use lib.ListN.{length}
use Prim.Native.Nat.{◌-◌}
use Rattle.receiver.proofs.Replaying.{Replaying}
use Rattle.receiver.proofs.replay.Given as goal

abbrev pub invariant-loop-length : goal.invariant-loop-length
invariant-loop-length l = Replaying l.trace l.initial.file l.initial.map l.initial.state l.file l.map l.at l.state

abbrev pub decreases-loop-length : goal.decreases-loop-length
decreases-loop-length l = length l.trace - l.at
