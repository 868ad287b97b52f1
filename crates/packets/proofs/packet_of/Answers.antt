use native.Mathlib.Omega.{arith}
use Rattle.packets.proofs.Laws.{says_literal, says_run}
use Rattle.packets.proofs.packet_of.Goals as goal

pub returns-then-control-lt128 : goal.returns-then-control-lt128
returns-then-control-lt128 c = says_literal c.from-control.ensures c.if-control-lt128.true

pub returns-else-control-lt128 : goal.returns-else-control-lt128
returns-else-control-lt128 c = says_run c.from-control.ensures c.if-control-lt128.false (omega (arith, c.ranges.control.fits))
