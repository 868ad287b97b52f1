-- The constant itself is tested, at all of its places.
use Rattle.pixel.specs.Luv.{uv}
use Rattle.pixel.proofs.Holding.{holds_uv}
use mathlib.Core.Path.{refl}
use Rattle.pixel.proofs.table.uv_table.Goals as goal

pub invariant_of-result : goal.invariant_of-result
unfolding uv
invariant_of-result c = record { holds = holds_uv _ tt refl }
