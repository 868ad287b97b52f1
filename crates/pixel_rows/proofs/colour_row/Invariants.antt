use Prim.Native.Nat.{◌*◌}
use Rattle.pixel_rows.proofs.Rows.{Colours}
use Rattle.pixel_rows.proofs.colour_row.Given as goal

abbrev pub invariant-loop-b : goal.invariant-loop-b
invariant-loop-b l = Colours l.w l.planes 0 l.n l.initial.out l.out (64 * l.b)
