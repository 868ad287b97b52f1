-- Both halves are there.
use Rattle.records.proofs.Numbers.{halves}
use Rattle.records.proofs.read.Goals as goal

pub word4-requires : goal.word4-requires
word4-requires c = search halves

pub word4-requires-2 : goal.word4-requires-2
word4-requires-2 c = search halves
