-- A range of a file that is accepted: it lies inside, and its packets are accepted.
use Prim.Native.Nat.{ℕ, ◌+◌, ◌-◌}
use mathlib.Core.Path.{◌≡◌, sym}
use mathlib.Core.List.{List}
use native.Mathlib.Nat.{add-sub_cancel_left}
use lib.ListN.{take, drop}
use borrow.Author.Tests.{leb-true}
use Rattle.lists.specs.Lists.{overlay}
use Rattle.checks.specs.Checks.{verdict, Holds}
use Rattle.checks.proofs.Exact.{fine}
use Rattle.packets.specs.Packets.{expand, part, range_checks}
use Rattle.packets.specs.Inner.{Accepted}
use Rattle.logluv.specs.Inner.{Ranged}
use Rattle.std.specs.Prelude.{Ok}

-- an accepted range lies inside the file, and its packets are accepted
pub ranged : (s : List ℕ) (start count stride needed : ℕ) {y : Unit {0}} → Ok y ≡ verdict (range_checks s start count stride needed) → Ranged s start count needed
unfolding range_checks Holds
ranged s start count stride needed e =
    let h = (fine (range_checks s start count stride needed)).0 (sym e) in
    record {
      from = leb-true _ _ h.1.0;
      upto = leb-true _ _ h.1.1.0;
      packets = record { stride = stride; holds = h.1.1.1 };
    }

pub ranged_part : (s : List ℕ) (start count needed : ℕ) → Ranged s start count needed → Accepted (take (start + count - start) (drop start s)) needed
ranged_part s start count needed g = rw add-sub_cancel_left g.packets

pub ranged_wrote : (s : List ℕ) (start count : ℕ) (old out : List ℕ) → out ≡ overlay (expand (take (start + count - start) (drop start s)) 0) old
    → out ≡ overlay (expand (part s start count) 0) old
ranged_wrote s start count old out e = rw add-sub_cancel_left at e
