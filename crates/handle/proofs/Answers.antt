-- What an inspection's answer tells of the checks behind it, and of a handle that it gives.
use Prim.Native.Nat.{ℕ}
use mathlib.Core.Path.{◌≡◌, refl, sym, ap}
use mathlib.Core.Bool.{true}
use Rattle.std.specs.Prelude.{Result, Ok, Err}
use Rattle.checks.specs.Numbers.{Told, leaving}
use Rattle.checks.specs.declared.Refusal.{Refusal}
use Rattle.checks.specs.declared.Refused.{Refused}
use Rattle.seen.proofs.Blocks.{true_false}
use Rattle.handle.specs.Handle.{inspected, inspected_with, gives}
use Rattle.handle.specs.declared.Handle.{Handle}
use Rattle.handle.specs.declared.Inspected.{Inspected}
use Rattle.handle.proofs.Handles.{same_is}

pub inspected_picture : (t : Told) (h g : Handle) (w : ℕ) → inspected t h ≡ Ok (inspected_with g w) → (t ≡ Ok w) × (g ≡ h)
inspected_picture (Ok x) h g w q =
    let e : inspected_with h x ≡ inspected_with g w = cc in
    (ap (λ (i : Inspected). Ok i.left) e, sym (ap (λ (i : Inspected). i.handle) e))
inspected_picture (Err r) h g w q = absurd cc

pub inspected_refused : (t : Told) (h : Handle) (e : Refusal) (w : ℕ) → inspected t h ≡ Err (leaving e w) → t ≡ Err (leaving e w)
inspected_refused (Ok x) h e w q = absurd cc
inspected_refused (Err r) h e w q = ap Err cc

-- a handle that an answer gives is that of its picture
pub given_is : (r : Result Inspected Refused) (h : Handle) → gives r h ≡ true → (w : ℕ) × (r ≡ Ok (inspected_with h w))
given_is (Ok i) h e = (i.left, ap (λ (x : Handle). Ok (inspected_with x i.left)) (same_is i.handle h e))
given_is (Err r) h e = absurd (true_false e refl)
