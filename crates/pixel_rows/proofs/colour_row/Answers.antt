-- Each turn joins a block of pixels to those so far, and the rest follows at once.
use Rattle.std.proofs.Common.{arith, refl}
use Rattle.pixel.specs.Luv.{row_pixels}
use Rattle.pixel_rows.proofs.Rows.{colours_more, colours_last}
use Rattle.pixel_rows.proofs.colour_row.Goals as goal

pub loop-b-preserved : goal.loop-b-preserved
loop-b-preserved c =
    colours_more _ _ _ _ _ _ _ c.loop-b.invariant 64 384 _ _ _ _ (omega arith) refl (omega arith) (omega arith) (omega arith) c.block_at.ensures

pub returns : goal.returns
unfolding row_pixels
returns c = colours_last _ _ _ _ _ _ _ c.loop-b.invariant _ _ _ _ _ (omega arith) refl (omega arith) (omega arith) c.rest_at.ensures
