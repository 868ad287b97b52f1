-- The bytes of each pixel are those of its samples.
use Rattle.pixel.proofs.Stores.{four_are}
use Rattle.pixel.proofs.put_four.Goals as goal

pub returns : goal.returns
returns c = search four_are
