-- A segment's visible rows, scattered where they belong, are the segment painted.
use Rattle.paint.proofs.Parts.{scatters}
use Rattle.paint.proofs.paint.Goals as goal

pub scatter-requires : goal.scatter-requires
scatter-requires c = scatters _ _ _ c.requires.0 c.requires.3 _ c.visible_of-visible.ensures _ c.bytes_of.ensures _ c.requires.2
