use Prim.Native.Nat.{ℕ, ◌<◌}
use mathlib.Core.Path.{◌≡◌}
use lib.ListN.{get_or}
use Rattle.colours.specs.Colours.{colour_at}
use Rattle.colours.proofs.fill.Given as goal

abbrev pub invariant-loop-p : goal.invariant-loop-p
invariant-loop-p l =
    (k : ℕ) → k < l.p → get_or l.out k 0 ≡ colour_at l.picture.size l.picture.bytes.now l.quality l.grid.width l.grid.block_width l.grid.block_height k
