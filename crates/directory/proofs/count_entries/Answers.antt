-- The two bytes are there, then the number may stand, then the entries are there.
use native.Mathlib.Omega.{arith}
use Rattle.checks.proofs.Rules.{handed_on}
use Rattle.seen.specs.Seen.{seen}
use Rattle.seen.proofs.Words.{there_of}
use Rattle.directory.proofs.Directories.{count_cut, number_refused, body_cut, counted_there}
use Rattle.directory.proofs.count_entries.Goals as goal

pub returns-in_err-need : goal.returns-in_err-need
returns-in_err-need c = handed_on c.from_residual.ensures.1 (count_cut _ _ _ _ c.in_err-need.ensures)

pub word2-entries-requires : goal.word2-entries-requires
word2-entries-requires c = there_of _ _ _ c.in_ok-need.ensures

pub returns-in_err-check_number : goal.returns-in_err-check_number
returns-in_err-check_number c =
    handed_on c.from_residual-in_err-check_number.ensures.1
    (number_refused _ _ _ _ c.in_ok-need.ensures c.word2-entries.ensures.0 c.in_err-check_number.ensures)

pub overflow_add-at : goal.overflow_add-at
overflow_add-at c = let t = there_of (seen c.args.file.now c.args.map.now) _ _ c.in_ok-need.ensures in omega (arith, t.in_file)

pub returns-in_err-need-2 : goal.returns-in_err-need-2
returns-in_err-need-2 c =
    handed_on c.from_residual-in_err-need-2.ensures.1
    (body_cut _ _ _ _ c.in_ok-need.ensures c.word2-entries.ensures.0 c.in_ok-check_number.ensures c.in_err-need-2.ensures)

pub returns : goal.returns
returns c = counted_there _ _ _ _ c.in_ok-need.ensures c.word2-entries.ensures.0 c.in_ok-check_number.ensures c.in_ok-need-2.ensures
