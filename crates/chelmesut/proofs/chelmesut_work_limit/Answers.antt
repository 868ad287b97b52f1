-- The six numbers are the limits whose bound is asked for.
use Rattle.chelmesut.proofs.Faces.{bounding}
use Rattle.chelmesut.proofs.chelmesut_work_limit.Goals as goal

pub returns : goal.returns
returns c = search bounding
