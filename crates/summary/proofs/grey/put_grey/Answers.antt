-- The bytes of L lie in each whole pixel.
use native.Mathlib.Omega.{arith}
use Rattle.summary.proofs.Greys.{light_there}
use Rattle.summary.proofs.grey.put_grey.Goals as goal

pub light_at-requires : goal.light_at-requires
light_at-requires c = light_there _ _ _ (omega arith)
