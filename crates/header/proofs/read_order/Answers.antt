use Rattle.header.proofs.Orders.{first_there}
use Rattle.header.proofs.read_order.Goals as goal

pub word4-first-requires : goal.word4-first-requires
word4-first-requires c = first_there _ c.requires
