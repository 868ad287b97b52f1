-- Both calls are lent the needed part of scratch alone, so all after it stays; the second leaves it zero.
use Rattle.clearing.proofs.Clearing.{clearing}
use Rattle.decoding.proofs.show_picture.Goals as goal

pub returns-clause-cleared : goal.returns-clause-cleared
returns-clause-cleared c = search clearing
