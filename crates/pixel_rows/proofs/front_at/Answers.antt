-- None, or a block of those that are a multiple of four.
use Rattle.std.proofs.Common.{arith}
use Rattle.pixel_rows.proofs.Rows.{front_none, front_made}
use Rattle.pixel_rows.proofs.front_at.Goals as goal

pub returns-then-n-lt16 : goal.returns-then-n-lt16
returns-then-n-lt16 c = front_none _ _ _ _ _

pub returns : goal.returns
returns c = front_made _ _ _ _ _ _ _ (omega arith) c.block_at.ensures
