-- The layout ends the list where it refuses; where it passes, the block has sides, and the segments go on.
use Rattle.checks.proofs.Rules.{handed_on}
use Rattle.logluv_format.proofs.Formats.{layout_refused, layout_fine, sound}
use Rattle.logluv_format.proofs.read_blocks.Goals as goal

pub returns-in_err-check_layout : goal.returns-in_err-check_layout
returns-in_err-check_layout c = handed_on c.from_residual.ensures.1 (layout_refused _ _ _ _ _ _ c.shape_of-s.ensures c.in_err-check_layout.ensures)

pub read_segments-requires : goal.read_segments-requires
read_segments-requires c = (c.requires.0, sound _ _ _ _ c.requires.1 c.shape_of-s.ensures c.in_ok-check_layout.ensures)

pub returns : goal.returns
returns c = layout_fine _ _ _ _ _ _ c.shape_of-s.ensures c.in_ok-check_layout.ensures c.read_segments.ensures
