-- Step 4: the loop over the values of an entry, each of which is refused or a number.
use Prim.Native.Nat.{ℕ, suc, ◌+◌, ◌-◌, ◌<◌, ◌≤◌}
use mathlib.Core.Path.{◌≡◌, sym, ◌∙◌}
use mathlib.Core.List.{List, ◌∷◌, ◌++◌}
use mathlib.Core.Bool.{Bool}
use native.Mathlib.Omega.{arith}
use native.Mathlib.Nat.{sub-zero}
use native.Mathlib.Numerals.{add-one}
use lib.Dec.{eqb}
use borrow.Author.Tests.{eq-eqb, ne_eqb}
use Rattle.checks.specs.Numbers.{unsupported, no_refusal}
use Rattle.checks.specs.Checks.{Check, must, verdict}
use Rattle.checks.proofs.Exact.{verdict_then, verdict_stops}
use Rattle.seen.specs.Seen.{Seen, there}
use Rattle.entries.specs.Values.{size_of, place_of, value_at, value_is}
use Rattle.checks.specs.declared.Refusal.{Refusal}
use Rattle.entries.proofs.EntryValues.{value_stops, value_is_lem}
use Rattle.profile.specs.Profile.{each_is}
use Rattle.std.specs.Prelude.{Ok, Err}

-- the loop: the values before i passed
pub record Matching (v : Seen) (big : Bool) (n e wanted i : ℕ) : Type 0 where
  pub same : verdict (each_is v big e wanted 0 n) ≡ verdict (each_is v big e wanted i (n - i))

pub no_value : (v : Seen) (big : Bool) (n e wanted : ℕ) → Matching v big n e wanted 0
no_value v big n e wanted = record { same = rw (sub-zero n) }

module _ (v : Seen) (big : Bool) (n e wanted i : ℕ) (p : Matching v big n e wanted i) where
  module _ (h : i < n) where
    bytes : List Check
    bytes = there v (place_of v big e i) (size_of v big e)

    others : List Check
    others = must (eqb (value_at v big e i) wanted) unsupported ∷ each_is v big e wanted (suc i) (n - suc i)

    opened : verdict (each_is v big e wanted 0 n) ≡ verdict (bytes ++ others)
    unfolding each_is bytes others
    opened = let m : n - i ≡ suc (n - suc i) = omega arith in p.same ∙ rw m

    pub value_stopped : {r : Refusal} → Err r ≡ value_is v big e i → Err r ≡ verdict (each_is v big e wanted 0 n)
    unfolding bytes
    value_stopped q = sym (opened ∙ verdict_stops bytes others _ (value_stops v big e i q))

    module _ {x : ℕ} (q : Ok x ≡ value_is v big e i) where
      read : (verdict (there v (place_of v big e i) (size_of v big e)) ≡ no_refusal) × (x ≡ value_at v big e i)
      read = value_is_lem v big e i q

      value_there : verdict (each_is v big e wanted 0 n) ≡ verdict others
      unfolding bytes
      value_there = opened ∙ verdict_then bytes others read.0

      pub value_other : (x ≡ wanted → ⊥) → Err unsupported ≡ verdict (each_is v big e wanted 0 n)
      unfolding verdict others
      value_other d = sym (value_there ∙ rw (← read.1, ne_eqb x wanted d))

      pub value_wanted : x ≡ wanted → Matching v big n e wanted (i + 1)
      unfolding verdict others
      value_wanted d = record { same = value_there ∙ rw (← read.1, eq-eqb x wanted d, add-one i) }

  pub all_wanted : n ≤ i → no_refusal ≡ verdict (each_is v big e wanted 0 n)
  unfolding verdict each_is
  all_wanted h = let m : n - i ≡ 0 = omega arith in sym (p.same ∙ rw m)
