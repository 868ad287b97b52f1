-- What is ahead, received as things stand now, is what the whole trace leaves.
use Rattle.receiver.proofs.Receiving.{block_part}
use Rattle.receiver.proofs.Replaying.{replays}
use Rattle.receiver.proofs.replay.Goals as goal

pub loop-length-smaller-in-Start : goal.loop-length-smaller-in-Start
loop-length-smaller-in-Start c = search replays

pub loop-length-preserved-in-Start : goal.loop-length-preserved-in-Start
loop-length-preserved-in-Start c = search replays

pub overflow_add-to : goal.overflow_add-to
overflow_add-to c = search replays

pub slice_bounds-block-end : goal.slice_bounds-block-end
slice_bounds-block-end c = search replays

pub loop-length-smaller : goal.loop-length-smaller
loop-length-smaller c = search replays

pub loop-length-preserved : goal.loop-length-preserved
loop-length-preserved c = search (block_part, replays)
