use lib.ListN.{length}
use Rattle.packets.proofs.Laws.{Scanned}
use Rattle.packets.proofs.check_part.Given as goal

abbrev pub invariant-loop-control : goal.invariant-loop-control
invariant-loop-control l = Scanned l.stride l.p l.needed l.rest l.left l.room

abbrev pub decreases-loop-control : goal.decreases-loop-control
decreases-loop-control l = length l.rest
