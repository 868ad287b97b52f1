-- The packet at hand is used up, so what is ahead starts with the next one.
use Rattle.logluv.proofs.Steps.{steps}
use Rattle.logluv.proofs.Cursor.next_packet.Goals as goal

pub returns : goal.returns
returns c = search steps
