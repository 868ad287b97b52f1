use Rattle.luv.proofs.Scattering.{Scattering}
use Rattle.luv.proofs.scatter.Given as goal

abbrev pub invariant-loop : goal.invariant-loop
invariant-loop l = Scattering l.mono l.step l.w l.n l.rows l.first l.pitch l.planes l.initial.out l.out l.counter l.from l.at
