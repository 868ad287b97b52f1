-- Each number holds four of the twelve samples.
use Rattle.pixel.proofs.Stores.{twelve_stored}
use Rattle.pixel.proofs.put_twelve.Goals as goal

pub returns : goal.returns
returns c = search twelve_stored
