use Rattle.logluv.proofs.Steps.{Giving}
use Rattle.logluv.proofs.expand_part.Given as goal

abbrev pub invariant-loop-place : goal.invariant-loop-place
invariant-loop-place l = Giving l.p l.needed l.initial.place-items l.place-items l.cursor l.place-index
