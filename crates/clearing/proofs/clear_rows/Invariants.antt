use Rattle.clearing.proofs.ClearedRows.{Blanking}
use Rattle.clearing.proofs.clear_rows.Given as goal

abbrev pub invariant-loop : goal.invariant-loop
invariant-loop l = Blanking l.size l.rows l.first l.pitch l.initial.out l.out l.counter l.at
