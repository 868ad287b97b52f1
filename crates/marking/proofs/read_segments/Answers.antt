-- Each turn shows one segment more in its place and marks it.
use Rattle.marking.proofs.Marking.{marking}
use Rattle.marking.proofs.read_segments.Goals as goal

pub read_segment-requires : goal.read_segment-requires
read_segment-requires c = search marking

pub loop-k-preserved : goal.loop-k-preserved
loop-k-preserved c = search marking

pub returns : goal.returns
returns c = search marking
