-- Each turn joins one pixel to those so far.
use Rattle.std.proofs.Common.{refl}
use Rattle.pixel_rows.proofs.Rows.{single_more, colours_all}
use Rattle.pixel_rows.proofs.singles_at.Goals as goal

pub loop-k-preserved : goal.loop-k-preserved
loop-k-preserved c = single_more _ _ _ _ _ _ _ c.loop-k.invariant _ _ c.loop-k-test.true refl c.put_pixel.ensures

pub returns : goal.returns
returns c = colours_all _ _ _ _ _ _ _ c.loop-k.invariant c.loop-k-test.false
