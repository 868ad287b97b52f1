-- Steps 2 and 3 end the list where they refuse, then step 4 does; where they pass, the picture has sides, and steps 5 to 8 go on.
use Rattle.checks.proofs.Rules.{handed_on}
use Rattle.logluv_format.proofs.Formats.{numbers_refused, samples_refused, samples_fine, sided}
use Rattle.logluv_format.proofs.read_samples.Goals as goal

pub returns-in_err-check_numbers : goal.returns-in_err-check_numbers
returns-in_err-check_numbers c = handed_on c.from_residual.ensures.1 (numbers_refused _ _ _ _ _ _ c.in_err-check_numbers.ensures)

pub returns-in_err-check_depths : goal.returns-in_err-check_depths
returns-in_err-check_depths c =
    handed_on c.from_residual-in_err-check_depths.ensures.1
    (samples_refused _ _ _ _ _ _ c.in_ok-check_numbers.ensures c.is_mono.ensures c.channels_of-samples.ensures c.in_err-check_depths.ensures)

pub read_blocks-requires : goal.read_blocks-requires
read_blocks-requires c = (c.requires, sided _ _ _ c.in_ok-check_numbers.ensures)

pub returns : goal.returns
returns c =
    samples_fine _ _ _ _ _ _ c.in_ok-check_numbers.ensures c.is_mono.ensures c.channels_of-samples.ensures c.in_ok-check_depths.ensures
    c.read_blocks.ensures
