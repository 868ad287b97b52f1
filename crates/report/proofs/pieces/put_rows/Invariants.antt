-- Each line ends where the next begins, and what is left of the codes grows less.
use Rattle.std.proofs.Common.{length, ◌-◌, ◌≡◌, ◌≤◌}
use Rattle.report.proofs.pieces.put_rows.Given as goal

abbrev pub invariant-loop-at : goal.invariant-loop-at
invariant-loop-at g l = (l.at ≤ length l.codes) × (length l.line ≡ length l.initial.line)

abbrev pub decreases-loop-at : goal.decreases-loop-at
decreases-loop-at g l = length l.codes - l.at
