use Rattle.std.proofs.Common.{◌*◌}
use Rattle.lists.proofs.Rows.{Rowing}
use Rattle.rows64.specs.Rows64.{row64}
use Rattle.float64.proofs.convert_rows.Given as goal

abbrev pub invariant-loop-y : goal.invariant-loop-y
invariant-loop-y l =
    let size = l.w * (8 * l.ch) in
    Rowing (row64 l.little l.predict l.w l.ch l.reset) size size l.h l.raw l.initial.out l.out l.y (l.y * size) (l.y * size)
