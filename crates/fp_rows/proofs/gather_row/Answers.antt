-- Byte by byte from the place that the definition names.
use Rattle.std.proofs.Common.{rules}
use Rattle.fp_rows.proofs.Gathering.{gathering_more, gathering_all}
use Rattle.fp_rows.proofs.gather_row.Goals as goal

pub loop-b-preserved : goal.loop-b-preserved
loop-b-preserved c = gathering_more _ _ _ _ _ _ _ _ c.loop-b.invariant c.requires.0 c.loop-b-test.true (search rules) c.plane_of.ensures.0

pub returns : goal.returns
returns c = gathering_all _ _ _ _ _ c.loop-s.invariant (search rules)
