-- What is ahead in these bytes, received as things stand now, is what all of them leave.
use Rattle.replay.proofs.Taking.{taking}
use Rattle.replay.proofs.messages.take.Goals as goal

pub loop-length-smaller-in-Start : goal.loop-length-smaller-in-Start
loop-length-smaller-in-Start c = search taking

pub loop-length-preserved-in-Start : goal.loop-length-preserved-in-Start
loop-length-preserved-in-Start c = search taking

pub overflow_add-to : goal.overflow_add-to
overflow_add-to c = search taking

pub slice_bounds-block-end : goal.slice_bounds-block-end
slice_bounds-block-end c = search taking

pub loop-length-smaller : goal.loop-length-smaller
loop-length-smaller c = search taking

pub loop-length-preserved : goal.loop-length-preserved
loop-length-preserved c = search taking
