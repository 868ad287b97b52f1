use Rattle.seen.specs.Seen.{seen}
use Rattle.admission.proofs.Charging.{Charging}
use Rattle.admission.proofs.charges.charge_all.Given as goal

abbrev pub invariant-loop-k : goal.invariant-loop-k
invariant-loop-k l = Charging (seen l.file l.map) l.format l.k l.total
