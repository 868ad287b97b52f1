use Rattle.seen.specs.Seen.{seen}
use Rattle.arrays.proofs.Samples.{Matching}
use Rattle.arrays.proofs.check_each.Given as goal

abbrev pub invariant-loop-i : goal.invariant-loop-i
invariant-loop-i l = Matching (seen l.file l.map) l.big l.samples l.entry l.wanted l.i
