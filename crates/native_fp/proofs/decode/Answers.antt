use Rattle.native_fp.proofs.Sizes.{sized}
use Rattle.native_fp.proofs.decode.Goals as goal

pub undo-requires : goal.undo-requires
undo-requires c = sized _ _ _ _ _ _ c.in_ok-check_sizes.ensures
