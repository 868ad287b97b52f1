-- The part of scratch that is zeroed after use.
use Prim.Native.Nat.{ℕ, ◌≤◌}
use mathlib.Core.Path.{◌≡◌, ◌∙◌}
use mathlib.Core.List.{List, ◌++◌}
use borrow.Author.Rules.{rules}
use lib.ListN.{length, take, drop, replicate, length-replicate}
use lib.Seq.{length-take-le, take_at, drop_at}
use Rattle.lists.specs.Lists.{overlay}

-- a part of scratch that was lent twice, and zeroed the second time
pub zeroed : (needed : ℕ) (scratch used cleared : List ℕ) → needed ≤ length scratch
    → length used ≡ length (take needed scratch)
    → cleared ≡ replicate (length (take needed (used ++ drop needed scratch))) 0
    → cleared ++ drop needed (used ++ drop needed scratch) ≡ overlay (replicate needed 0) scratch
unfolding overlay
zeroed needed scratch used cleared room e z =
    let n : length used ≡ needed = e ∙ length-take-le needed scratch room in
    rw (z, take_at used (drop needed scratch) needed n, drop_at used (drop needed scratch) needed n, n, length-replicate)

pub ruleset clearing = (zeroed, rules)
