-- The test that passed says that the bytes are there.
use Rattle.seen.proofs.Words.{there_of}
use Rattle.records.proofs.num.Goals as goal

pub read-requires : goal.read-requires
read-requires c = there_of _ _ _ c.in-Ok.ensures
