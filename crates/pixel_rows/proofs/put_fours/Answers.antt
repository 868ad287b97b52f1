-- Each turn joins four pixels to those so far.
use Rattle.pixel_rows.proofs.Blocks.{quartering_more, quartering_all}
use Rattle.pixel_rows.proofs.put_fours.Goals as goal

pub loop-i-preserved : goal.loop-i-preserved
loop-i-preserved c = quartering_more _ _ _ _ _ _ c.loop-i.invariant c.loop-i-test.true _ c.put_four.ensures

pub returns : goal.returns
returns c = quartering_all _ _ _ _ _ _ c.loop-i.invariant c.loop-i-test.false
