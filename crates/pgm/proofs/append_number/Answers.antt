-- The digits are the fewest that hold the number, which are those of the definition.
use Rattle.pgm.proofs.Decimals.{decimals}
use Rattle.pgm.proofs.append_number.Goals as goal

pub returns-clause-placed : goal.returns-clause-placed
returns-clause-placed c = search decimals
