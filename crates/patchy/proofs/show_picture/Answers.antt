-- The first two calls are lent the needed part of scratch alone, so all after it stays, and the second leaves it zero; the last makes the
-- quality bytes after the last segment zero.
use Rattle.patchy.proofs.Answers.{showings}
use Rattle.patchy.proofs.show_picture.Goals as goal

pub returns-clause-cleared : goal.returns-clause-cleared
returns-clause-cleared c = search showings

pub returns-clause-marks : goal.returns-clause-marks
returns-clause-marks c = search showings
