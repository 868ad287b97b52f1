use Prim.Native.Nat.{ℕ, ◌<◌}
use mathlib.Core.Path.{◌≡◌}
use lib.ListN.{get_or}
use Rattle.summary.specs.Grey.{grey_at}
use Rattle.summary.proofs.grey.put_grey.Given as goal

abbrev pub invariant-loop-k : goal.invariant-loop-k
invariant-loop-k l = (i : ℕ) → i < l.k → get_or l.grey i 0 ≡ grey_at l.picture.size l.picture.bytes.now i
