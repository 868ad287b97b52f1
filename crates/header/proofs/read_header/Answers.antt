-- The eight bytes are needed first, then their order.
use Rattle.checks.proofs.Rules.{handed_on}
use Rattle.seen.proofs.Words.{there_of}
use Rattle.header.proofs.Orders.{header_refused, header_read}
use Rattle.header.proofs.read_header.Goals as goal

pub returns-in_err-need : goal.returns-in_err-need
returns-in_err-need c = handed_on c.from_residual.ensures.1 (header_refused _ c.in_err-need.ensures)

pub read_order-requires : goal.read_order-requires
read_order-requires c = there_of _ _ _ c.in_ok-need.ensures

pub returns : goal.returns
returns c = header_read _ c.in_ok-need.ensures c.read_order.ensures
