-- Each turn joins one pixel to those of the row so far.
use Rattle.pixel_rows.proofs.Rows.{monos_none, monos_more, monos_all}
use Rattle.pixel_rows.proofs.mono_row.Goals as goal

pub loop-i-init : goal.loop-i-init
loop-i-init c = monos_none _ _ _ _ c.requires.exact

pub loop-i-preserved : goal.loop-i-preserved
loop-i-preserved c = monos_more _ _ _ _ _ _ c.loop-i.invariant _ c.loop-i-test.true c.put_mono.ensures

pub returns : goal.returns
returns c = monos_all _ _ _ _ _ _ c.loop-i.invariant c.loop-i-test.false c.requires.exact
