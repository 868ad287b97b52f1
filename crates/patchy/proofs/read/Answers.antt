-- What is admitted can be read into the buffers.
use Rattle.patchy.proofs.Answers.{held}
use Rattle.patchy.proofs.read.Goals as goal

pub show_picture-requires : goal.show_picture-requires
show_picture-requires c = held _ _ c.args.page c.args.limits _ c.args.left c.in-Ok.ensures
