-- A number that lies in the file is read from its two halves; past the end it is 0.
use Prim.Native.Nat.{ℕ, ◌+◌, ◌*◌}
use mathlib.Core.Path.{◌≡◌, refl, ◌∙◌}
use mathlib.Core.List.{List, []}
use mathlib.Core.Bool.{Bool, true, false}
use native.Mathlib.Omega.{arith}
use lib.ListN.{length}
use borrow.Author.Rules.{rules}
use Rattle.lists.specs.Lists.{pick}
use Rattle.checks.specs.Numbers.{no_refusal, truncated}
use Rattle.checks.specs.Checks.{verdict}
use Rattle.checks.specs.declared.Refusal.{Refusal}
use Rattle.std.specs.Prelude.{Ok, Err}
use Rattle.seen.specs.Seen.{Seen, seen, inside, there, There, four}
use Rattle.seen.proofs.Words.{there_part}
use Rattle.seen.proofs.Alike.{whole_came}
use Rattle.records.specs.Records.{eight, number_at}

module _ (v : Seen) (at : ℕ) where
  pub low_there : There v at 8 → There v at 4
  low_there t = there_part v at 8 at 4 t (omega arith) (omega arith)

  pub high_there : There v at 8 → There v (at + 4) 4
  high_there t = there_part v at 8 (at + 4) 4 t (omega arith) (omega arith)

  pub eight_read : (a b : ℕ) → a ≡ four false v at → b ≡ four false v (at + 4) → a + 4294967296 * b ≡ eight v at
  unfolding eight
  eight_read a b ea eb = rw (ea, eb)

-- the test that the bytes are there passes exactly where they are inside: of a whole file all came
module _ (file : List ℕ) (at : ℕ) where
  pub none_there : {e : Refusal} → Err e ≡ verdict (there (seen file []) at 8) → 0 ≡ number_at (seen file []) at
  unfolding verdict number_at
  none_there {e} q = by (inside (length file) at 8) refl
    where
      by : (b : Bool) → inside (length file) at 8 ≡ b → 0 ≡ pick (inside (length file) at 8) (eight (seen file []) at) 0
      by true t = let g : Err e ≡ no_refusal = q ∙ rw (t, whole_came file at 8) in absurd cc
      by false t = rw t

  pub number_read : {y : Unit {0}} {n : ℕ} → Ok y ≡ verdict (there (seen file []) at 8) → n ≡ eight (seen file []) at
      → n ≡ number_at (seen file []) at
  unfolding verdict number_at
  number_read {y} {n} q e = by (inside (length file) at 8) refl
    where
      by : (b : Bool) → inside (length file) at 8 ≡ b → n ≡ pick (inside (length file) at 8) (eight (seen file []) at) 0
      by true t = rw t e
      by false t = let g : Ok y ≡ Err truncated = q ∙ rw t in absurd cc

pub ruleset halves = (low_there, high_there, rules)

pub ruleset numbers = (eight_read, none_there, number_read, rules)
