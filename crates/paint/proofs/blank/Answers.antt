-- The visible rows are cleared where they stand, which paints the segment with nothing.
use Rattle.paint.proofs.Parts.{columns_fit, clears}
use Rattle.paint.proofs.blank.Goals as goal

pub overflow_mul-size : goal.overflow_mul-size
overflow_mul-size c = search columns_fit

pub clear_rows-requires : goal.clear_rows-requires
clear_rows-requires c = clears _ _ _ c.requires.0 c.requires.2 _ c.visible_of-visible.ensures _ c.bytes_of-size.ensures
