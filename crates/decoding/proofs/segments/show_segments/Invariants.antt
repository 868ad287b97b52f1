use Rattle.decoding.proofs.Showing.{Showing}
use Rattle.decoding.proofs.segments.show_segments.Given as goal

abbrev pub invariant-loop-k : goal.invariant-loop-k
invariant-loop-k l = Showing l.file l.map l.format l.initial.scratch l.initial.output l.scratch l.output l.k
