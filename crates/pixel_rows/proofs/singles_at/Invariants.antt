use Rattle.pixel_rows.proofs.Rows.{Colours}
use Rattle.pixel_rows.proofs.singles_at.Given as goal

abbrev pub invariant-loop-k : goal.invariant-loop-k
invariant-loop-k l = Colours l.w l.planes l.i l.n l.initial.out l.out l.k
