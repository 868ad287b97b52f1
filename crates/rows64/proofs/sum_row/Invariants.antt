use Rattle.std.proofs.Common.{◌-◌, ◌/◌, length}
use Rattle.rows64.proofs.Written.{Summing}
use Rattle.rows64.proofs.sum_row.Given as goal

abbrev pub invariant-loop-at : goal.invariant-loop-at
invariant-loop-at l = Summing l.little l.w l.ch l.reset l.raw l.initial.out l.out (l.at / 8) l.at l.channel l.since

abbrev pub decreases-loop-at : goal.decreases-loop-at
decreases-loop-at l = length l.raw - l.at
