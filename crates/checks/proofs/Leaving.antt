-- A call that charges nothing, whose refusals are handed on with the units left: what it gave, or its refusal.
use Prim.Native.Nat.{ℕ}
use mathlib.Core.Path.{◌≡◌, refl, ap}
use Rattle.std.specs.Prelude.{Result, Ok, Err, MatchResult}
use Rattle.checks.specs.Numbers.{leaving}
use Rattle.checks.specs.declared.Refusal.{Refusal}
use Rattle.checks.specs.declared.Refused.{Refused}

pub passed_on : {X : Type 0} {s : Result X Refusal} {x : X} → MatchResult s (λ y. ◌≡◌ {A = Result X Refused} (Ok x) (Ok y)) (λ e. ⊥) → Ok x ≡ s
passed_on {s = Ok y} m = ap Ok cc
passed_on {s = Err e} m = absurd m

pub refused_on : {X : Type 0} {P : Refusal → Type 0} {s : Result X Refusal} {r : Refused} (left : ℕ) → ((e : Refusal) → P e → r ≡ leaving e left)
    → MatchResult s (λ y. ◌≡◌ {A = Result X Refused} (Err r) (Ok y)) P → (e : Refusal) × (Err e ≡ s) × (r ≡ leaving e left)
refused_on {s = Ok y} left f m = absurd cc
refused_on {s = Err e} left f m = (e, refl, f e m)
