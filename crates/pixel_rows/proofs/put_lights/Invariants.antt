use Rattle.pixel_rows.specs.Inner.{Lights}
use Rattle.pixel_rows.proofs.put_lights.Given as goal

abbrev pub invariant-loop-i : goal.invariant-loop-i
invariant-loop-i l = Lights l.highs l.lows l.lights l.i
