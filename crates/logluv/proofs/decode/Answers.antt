-- An accepted range is expanded.
use Rattle.logluv.proofs.Ranges.{ranged}
use Rattle.logluv.proofs.decode.Goals as goal

pub expand_range-requires : goal.expand_range-requires
expand_range-requires c = (ranged _ _ _ _ _ c.in_ok-validate.ensures, c.if-out-needed.false)
