use Rattle.seen.specs.Seen.{seen}
use Rattle.inspection.proofs.Inspecting.{Checking}
use Rattle.inspection.proofs.check_segments.Given as goal

abbrev pub invariant-loop-k : goal.invariant-loop-k
invariant-loop-k l = Checking (seen l.file l.map) l.format l.max_output l.left l.k l.rest
