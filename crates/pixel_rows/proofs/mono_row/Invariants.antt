use Rattle.pixel_rows.proofs.Rows.{Monos}
use Rattle.pixel_rows.proofs.mono_row.Given as goal

abbrev pub invariant-loop-i : goal.invariant-loop-i
invariant-loop-i l = Monos l.w l.n l.planes l.initial.out l.out l.i
