use mathlib.Core.Path.{◌∙◌}
use native.Mathlib.Omega.{arith}
use Rattle.header.proofs.Orders.{begins_lem}
use Rattle.header.proofs.begins_with.Goals as goal

pub returns : goal.returns
returns c = c.starts_with.ensures.value ∙ begins_lem _ _ c.requires _ 0 (omega arith)
