-- The packets fill the part of scratch that is painted.
use Rattle.showing.proofs.Showing.{shows}
use Rattle.showing.proofs.show_segment.Goals as goal

pub returns-clause-picture : goal.returns-clause-picture
returns-clause-picture c = shows _ _ _ _ _ _ c.requires.0 c.needed_of-needed.ensures _ _ c.expand_part.ensures _ _ c.paint.ensures
