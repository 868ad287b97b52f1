use Rattle.seen.specs.Seen.{seen}
use Rattle.marking.proofs.Marking.{Marking}
use Rattle.marking.proofs.read_segments.Given as goal

abbrev pub invariant-loop-k : goal.invariant-loop-k
invariant-loop-k l = Marking (seen l.file l.map) l.format l.initial.output l.initial.scratch l.initial.quality l.output l.scratch l.quality l.k
