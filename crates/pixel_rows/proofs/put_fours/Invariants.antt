use Rattle.pixel_rows.proofs.Blocks.{Quartering}
use Rattle.pixel_rows.proofs.put_fours.Given as goal

abbrev pub invariant-loop-i : goal.invariant-loop-i
invariant-loop-i l = Quartering l.lights l.us l.vs l.initial.d l.d l.i
