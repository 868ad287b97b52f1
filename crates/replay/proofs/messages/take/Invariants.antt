use Prim.Native.Nat.{◌-◌}
use lib.ListN.{length}
use Rattle.receiver.proofs.Replaying.{Replaying}
use Rattle.replay.proofs.messages.take.Given as goal

abbrev pub invariant-loop-length : goal.invariant-loop-length
invariant-loop-length l = Replaying l.bytes l.initial.file l.initial.map l.initial.after.receiver l.file l.map l.at l.after.receiver

abbrev pub decreases-loop-length : goal.decreases-loop-length
decreases-loop-length l = length l.bytes - l.at
