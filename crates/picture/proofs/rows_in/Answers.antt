use Rattle.picture.proofs.Sizes.{sizes}
use Rattle.picture.proofs.rows_in.Goals as goal

pub returns : goal.returns
returns c = search sizes
