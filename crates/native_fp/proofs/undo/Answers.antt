-- The first pass leaves the summed rows at the front of scratch, and just that front is lent to the second.
use Rattle.native_fp.proofs.Passes.{passes}
use Rattle.native_fp.proofs.undo.Goals as goal

pub returns-clause-out_after : goal.returns-clause-out_after
returns-clause-out_after c = search passes
