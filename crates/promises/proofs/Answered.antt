-- The number of each call's answer is that of the checks behind it (rule 1.1), and so are the units left where it charges.
use Prim.Native.Nat.{ℕ}
use mathlib.Core.Path.{◌≡◌, refl}
use mathlib.Core.Bool.{Bool}
use mathlib.Core.List.{List}
use Rattle.std.specs.Prelude.{Ok, Err}
use Rattle.checks.specs.Numbers.{Verdict, Told, verdict_number, told_number, told_left}
use Rattle.checks.specs.Checks.{Check, verdict, giving}
use Rattle.checks.proofs.Rules.{giving_number, giving_left_number}
use Rattle.seen.specs.Seen.{Seen, there}
use Rattle.header.specs.Header.{start_of}
use Rattle.entries.specs.Values.{size_of, place_of, value_is}
use Rattle.picture.specs.declared.Format.{Format}
use Rattle.profile.specs.Profile.{step7}
use Rattle.profile.specs.declared.Shape.{Shape}
use Rattle.layout.specs.Inner.{counted_of}
use Rattle.plan.specs.Plan.{place_checks, place_is, plan_checks, plan_is}
use Rattle.front.specs.Front.{found, found_left}

pub start_number_lem : (v : Seen) (cs : List Check) → verdict_number (start_of v cs) ≡ verdict_number (verdict cs)
start_number_lem v cs = giving_number (verdict cs) _

pub value_told : (v : Seen) (big : Bool) (e i : ℕ)
    → verdict_number (value_is v big e i) ≡ verdict_number (verdict (there v (place_of v big e i) (size_of v big e)))
unfolding value_is
value_told v big e i = giving_number (verdict (there v (place_of v big e i) (size_of v big e))) _

pub profile_number_lem : (t : Verdict) (f : Format) → verdict_number (giving t f) ≡ verdict_number t
profile_number_lem t f = giving_number t f

pub counted_number_lem : (s : Shape) (ms mo : ℕ) → verdict_number (counted_of s ms mo) ≡ verdict_number (verdict (step7 s ms mo))
unfolding counted_of
counted_number_lem s ms mo = giving_number (verdict (step7 s ms mo)) _

module _ (v : Seen) (f : Format) where
  pub place_number_lem : (k : ℕ) → verdict_number (place_is v f k) ≡ verdict_number (verdict (place_checks v f k))
  place_number_lem k = giving_number (verdict (place_checks v f k)) _

  pub planned_number_lem : (m k : ℕ) → verdict_number (plan_is v f m k) ≡ verdict_number (verdict (plan_checks v f m k))
  planned_number_lem m k = giving_number (verdict (plan_checks v f m k)) _

pub found_number_lem : (t : Told) (f : Format) → told_number (found t f) ≡ told_number t
found_number_lem t f = giving_left_number t _

pub found_left_lem : (t : Told) (f : Format) → found_left (found t f) ≡ told_left t
found_left_lem (Ok u) f = refl
found_left_lem (Err r) f = refl
