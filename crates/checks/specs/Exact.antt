-- When a list of checks passes and when it refuses, said without running it. `run` gives these and nothing else: `Exact.accepted` and `Refusals.refused`.
use Rattle.std.specs.Prelude.{ℕ, ◌-◌, ◌<◌, ◌≤◌, ◌≡◌, List, ◌∷◌, ◌++◌, false}
use Rattle.checks.specs.Numbers.{budget}
use Rattle.checks.specs.declared.Refusal.{Refusal}
use Rattle.checks.specs.Checks.{Check, must, pay, Holds, cost}

-- it passes with u units and leaves v: each test holds, the units cover all charges, and just these are taken
pub record Exact (cs : List Check) (u v : ℕ) : Type 0 where
  pub holds : Holds cs
  pub covered : cost cs ≤ u
  pub rest : v ≡ u - cost cs

-- one check refuses with number e while w units are at hand: its test fails and has that number, or its charge is above the units
abbrev pub Refuses : Check → Refusal → ℕ → Type 0
Refuses (must b n) e w = (b ≡ false) × (n ≡ e)
Refuses (pay n) e w = (w < n) × (e ≡ budget)

-- the list refuses with number e and leaves w of u units: one of its checks does. Those before it hold and their charges are taken,
-- the check itself takes nothing, and those after it have no say (rules 1.2 and 1.4)
pub record RefusedAt (cs : List Check) (u : ℕ) (e : Refusal) (w : ℕ) : Type 0 where
  pub before : List Check
  pub check : Check
  pub after : List Check
  pub splits : cs ≡ before ++ (check ∷ after)
  pub holds : Holds before
  pub covered : cost before ≤ u
  pub rest : w ≡ u - cost before
  pub refuses : Refuses check e w
