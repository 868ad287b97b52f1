-- The length of a map: each answer of the code is that of the check.
use Prim.Native.Nat.{ℕ}
use mathlib.Core.Path.{◌≡◌, refl, sym, ◌∙◌}
use mathlib.Core.Logic.{◌↔◌, ◌⊎◌, inl, inr, ⊎_elim}
use mathlib.Core.Bool.{Bool, true, false}
use lib.Dec.{eqb}
use borrow.Author.Rules.{rules}
use borrow.Author.Tests.{eqb-true, eqb-false, eq-eqb, ne_eqb}
use Rattle.lists.specs.Lists.{pick}
use Rattle.checks.specs.Numbers.{map_size, no_refusal}
use Rattle.checks.specs.Checks.{verdict, Holds, cost}
use Rattle.seen.specs.Seen.{map_length, map_checks}
use Rattle.std.specs.Prelude.{Err}

module _ (size n : ℕ) where
  pub no_map_lent : n ≡ 0 → no_refusal ≡ verdict (map_checks size n)
  unfolding verdict
  no_map_lent z = rw (eq-eqb n 0 z)

  module _ (some : n ≡ 0 → ⊥) where
    module _ {m : ℕ} (wanted : m ≡ map_length size) where
      pub map_fits : n ≡ m → no_refusal ≡ verdict (map_checks size n)
      unfolding verdict
      map_fits e = rw (ne_eqb n 0 some, eq-eqb n (map_length size) (e ∙ wanted))

      pub map_differs : (n ≡ m → ⊥) → Err map_size ≡ verdict (map_checks size n)
      unfolding verdict
      map_differs d = rw (ne_eqb n 0 some, ne_eqb n (map_length size) (λ e. d (e ∙ sym wanted)))

pub ruleset maps = (no_map_lent, map_fits, map_differs, rules)

-- the check charges nothing, and holds for no map and for one byte a block
pub map_free : (size n : ℕ) → cost (map_checks size n) ≡ 0
unfolding cost
map_free size n = refl

pub map_fine : (size n : ℕ) → Holds (map_checks size n) ↔ ((n ≡ 0) ⊎ (n ≡ map_length size))
unfolding Holds
map_fine size n = (λ h. fits (eqb n 0) refl h.0, λ e. (passes (eqb n 0) refl e, tt))
  where
    fits : (t : Bool) → eqb n 0 ≡ t → pick t true (eqb n (map_length size)) ≡ true → (n ≡ 0) ⊎ (n ≡ map_length size)
    fits true e q = inl (eqb-true n 0 e)
    fits false e q = inr (eqb-true n (map_length size) q)

    passes : (t : Bool) → eqb n 0 ≡ t → (n ≡ 0) ⊎ (n ≡ map_length size) → pick t true (eqb n (map_length size)) ≡ true
    passes true e z = refl
    passes false e z = ⊎_elim (λ a. absurd (eqb-false n 0 e a)) (eq-eqb n (map_length size)) z
