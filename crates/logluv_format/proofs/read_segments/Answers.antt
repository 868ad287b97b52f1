-- The sizes end the list where they refuse; then the arrays do; else the format is that of the shape.
use Rattle.checks.proofs.Rules.{handed_on}
use Rattle.logluv_format.proofs.Formats.{sizes_refused, lists_refused, lists_fine, offsets_there, counts_there}
use Rattle.logluv_format.proofs.read_segments.Goals as goal

pub returns-in_err-sizes : goal.returns-in_err-sizes
returns-in_err-sizes c = handed_on c.from_residual.ensures.1 (sizes_refused _ _ _ _ _ _ c.in_err-sizes.ensures)

pub check_lists-requires : goal.check_lists-requires
check_lists-requires c = (
  offsets_there _ _ c.requires.0 _ c.entry_of-offsets.ensures,
  counts_there _ _ c.requires.0 _ c.entry_of-counts.ensures,
)

pub returns-in_err-check_lists : goal.returns-in_err-check_lists
returns-in_err-check_lists c =
    handed_on c.from_residual-in_err-check_lists.ensures.1
    (lists_refused _ _ _ _ _ _ c.in_ok-sizes.ensures c.entry_of-offsets.ensures c.entry_of-counts.ensures c.in_err-check_lists.ensures)

pub returns : goal.returns
returns c = lists_fine _ _ _ _ _ _ c.in_ok-sizes.ensures c.entry_of-offsets.ensures c.entry_of-counts.ensures c.in_ok-check_lists.ensures
