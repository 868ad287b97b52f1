-- Steps 4 and 8: what the functions' answers on an entry come to in the lists of checks.
use Prim.Native.Nat.{ℕ}
use mathlib.Core.Path.{◌≡◌, sym, ◌∙◌}
use mathlib.Core.List.{List, ◌∷◌}
use mathlib.Core.Bool.{Bool, true, false}
use borrow.Author.Rules.{rules}
use borrow.Author.Tests.{eq-eqb, ne_eqb, not-true, not-false}
use Rattle.checks.specs.Checks.{Check, must, verdict}
use Rattle.checks.specs.declared.Refusal.{Refusal}
use Rattle.checks.proofs.Rules.{refuse, allow, all_fine}
use Rattle.seen.specs.Seen.{Seen, There}
use Rattle.seen.proofs.Blocks.{true_false}
use Rattle.tags.specs.Inner.{EntryThere}
use Rattle.tags.proofs.Entries.{entry_is_there}
use Rattle.entries.specs.Values.{count_at, has_values}
use Rattle.profile.specs.Profile.{carries}
use Rattle.profile.proofs.Carried.{carries_is}
use Rattle.checks.specs.Numbers.{Verdict}
use Rattle.std.specs.Prelude.{Err}

-- an entry that is to have so many values
module _ (v : Seen) (big : Bool) (e n : ℕ) where
  pub list_absent : e ≡ 0 → false ≡ carries v big e n
  unfolding carries
  list_absent z = simp (eq-eqb _ _ z)

  pub list_present : {r : Bool} → (e ≡ 0 → ⊥) → r ≡ has_values v big e n → r ≡ carries v big e n
  unfolding carries
  list_present d q = simp (ne_eqb _ _ d) q

  pub list_there : {r : Bool} → EntryThere v e → r ≡ carries v big e n → r ≡ true → There v e 12
  list_there t q h = t.entry (λ z. true_false h (q ∙ sym (list_absent z)))

  pub list_counted : {r : Bool} → r ≡ carries v big e n → r ≡ true → count_at v big e ≡ n
  list_counted q h = (carries_is v big e n (sym q ∙ h)).as_many

-- a test that a call answered
module _ (b : Bool) (e : Refusal) (cs : List Check) {r : Bool} (q : r ≡ b) where
  pub refuse_told : r ≡ false → Err e ≡ verdict (must b e ∷ cs)
  refuse_told f = refuse b e cs (sym q ∙ f)

  pub allow_told : {t : Verdict} → r ≡ true → t ≡ verdict cs → t ≡ verdict (must b e ∷ cs)
  allow_told f k = allow b e cs (sym q ∙ f) k

pub ruleset arrays = (list_absent, list_present, list_there, list_counted, refuse_told, allow_told, all_fine, entry_is_there, not-true, not-false, rules)
