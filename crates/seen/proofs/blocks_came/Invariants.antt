use Rattle.seen.proofs.Blocks.{Blocks}
use Rattle.seen.proofs.blocks_came.Given as goal

abbrev pub invariant-loop-block : goal.invariant-loop-block
invariant-loop-block l = Blocks l.map l.start l.block
