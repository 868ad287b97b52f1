-- What the check of bytes says of them; bytes that are there are the file's own, and the words that they make are those seen.
use Prim.Native.Nat.{ℕ, zero, suc, ◌+◌, ◌-◌, ◌*◌, ◌<◌, ◌≤◌}
use mathlib.Core.Path.{◌≡◌, refl, sym, ◌∙◌}
use mathlib.Core.Logic.{◌↔◌}
use mathlib.Core.List.{List}
use mathlib.Core.Bool.{Bool, true, false}
use native.Mathlib.Omega.{arith}
use lib.ListN.{length, get_or, take, drop}
use lib.Seq.{drop-cons}
use lib.Dec.{leb}
use borrow.Author.Rules.{rules}
use borrow.Author.Tests.{leb-true, leb-false, le-leb}
use Rattle.lists.specs.Lists.{pick, span}
use Rattle.checks.specs.Numbers.{truncated, not_arrived, Verdict, no_refusal}
use Rattle.checks.specs.Checks.{verdict, Holds}
use Rattle.checks.proofs.Exact.{fine, refused_passed}
use Rattle.seen.specs.Seen.{Seen, seen, came_in, whole, inside, reach_of, there, There, two, four}
use Rattle.seen.specs.declared.Reach.{Reach}
use Rattle.seen.specs.declared.Reach.TheVariants.{Inside, Outside, Missing}
use Rattle.seen.proofs.Blocks.{true_false, whole_at, whole_part}
use Rattle.std.specs.Prelude.{Ok, Err}

pub there_part : (v : Seen) (start n at m : ℕ) → There v start n → start ≤ at → at + m ≤ start + n → There v at m
there_part v start n at m t a b = record { in_file = omega arith; came_all = whole_part v.came n start m at t.came_all a b }

-- what the check of a range says, and what says that it passes
inside_le : (size at n : ℕ) → inside size at n ≡ true → at + n ≤ size
unfolding inside
inside_le size at n e = by (leb at size) (leb n (size - at)) refl refl e
  where
    by : (a b : Bool) → leb at size ≡ a → leb n (size - at) ≡ b → pick a b false ≡ true → at + n ≤ size
    by true true p q t = omega (arith, leb-true at size p, leb-true n (size - at) q)
    by true false p q t = absurd (true_false t refl)
    by false b p q t = absurd (true_false t refl)

le_inside : (size at n : ℕ) → at + n ≤ size → inside size at n ≡ true
unfolding inside
le_inside size at n h = let a : at ≤ size = omega arith in let b : n ≤ size - at = omega arith in rw (le-leb at size a, le-leb n (size - at) b)

inside_beyond : (size at n : ℕ) → inside size at n ≡ false → size < at + n
inside_beyond size at n e = by (leb (at + n) size) refl
  where
    by : (b : Bool) → leb (at + n) size ≡ b → size < at + n
    by true t = absurd (true_false (le_inside size at n (leb-true (at + n) size t)) e)
    by false t = leb-false (at + n) size t

module _ (v : Seen) (at n : ℕ) where
  pub there_holds : There v at n → Holds (there v at n)
  unfolding Holds
  there_holds t = (le_inside v.size at n t.in_file, (t.came_all, tt))

  pub holds_there : Holds (there v at n) → There v at n
  unfolding Holds
  holds_there h = record { in_file = inside_le v.size at n h.0; came_all = h.1.0 }

  other_refusal : ◌≡◌ {A = Verdict} (Err not_arrived) (Err truncated) → ⊥
  other_refusal q = cc

  -- its answer by its two tests
  abbrev told : Bool → Bool → Verdict
  told inner all = pick inner (pick all no_refusal (Err not_arrived)) (Err truncated)

  -- it refuses with 1 exactly if one of the bytes lies outside the file, and with 8 exactly if none does and one did not come (rule 2.1)
  pub there_outside : (verdict (there v at n) ≡ Err truncated) ↔ (v.size < at + n)
  unfolding verdict
  there_outside = by (inside v.size at n) (whole v.came at n) refl
    where
      by : (b w : Bool) → inside v.size at n ≡ b → (told b w ≡ Err truncated) ↔ (v.size < at + n)
      by true true x = (λ q. absurd (refused_passed truncated tt (sym q)), λ l. absurd (omega (arith, inside_le v.size at n x)))
      by true false x = (λ q. absurd (other_refusal q), λ l. absurd (omega (arith, inside_le v.size at n x)))
      by false w x = (λ q. inside_beyond v.size at n x, λ l. refl)

  pub there_missing : (verdict (there v at n) ≡ Err not_arrived) ↔ ((at + n ≤ v.size) × (whole v.came at n ≡ false))
  unfolding verdict
  there_missing = by (inside v.size at n) (whole v.came at n) refl
    where
      by : (b w : Bool) → inside v.size at n ≡ b → (told b w ≡ Err not_arrived) ↔ ((at + n ≤ v.size) × (w ≡ false))
      by true true x = (λ q. absurd (refused_passed not_arrived tt (sym q)), λ p. absurd (true_false refl p.1))
      by true false x = (λ q. (inside_le v.size at n x, refl), λ p. refl)
      by false w x = (
        λ q. absurd (other_refusal (sym q)),
        λ p. absurd (omega (arith, inside_beyond v.size at n x)),
      )

  pub there_of : {y : Unit {0}} → Ok y ≡ verdict (there v at n) → There v at n
  there_of e = holds_there ((fine (there v at n)).0 (sym e))

  pub inside_there : {r : Reach} → r ≡ reach_of v at n → r ≡ Inside → There v at n
  unfolding reach_of
  inside_there e q = by (inside v.size at n) (whole v.came at n) refl refl (sym e ∙ q)
    where
      by : (b w : Bool) → inside v.size at n ≡ b → whole v.came at n ≡ w → pick b (pick w Inside Missing) Outside ≡ Inside → There v at n
      by true true x y z = record { in_file = inside_le v.size at n x; came_all = y }
      by true false x y z = absurd cc
      by false w x y z = absurd cc

-- the bytes of a range that is there
module _ (file map : List ℕ) (at : ℕ) where
  pub byte_came : (n : ℕ) → There (seen file map) at n → (j : ℕ) → at ≤ j → j < at + n → (seen file map).byte j ≡ get_or file j 0
  byte_came n t j a b = rw (whole_at (came_in (length file) map) n at t.came_all j a b)

  module _ (t : There (seen file map) at 2) (big : Bool) (a b : ℕ) (ea : a ≡ get_or file at 0) (eb : b ≡ get_or file (at + 1) 0) where
    pub two_big : big ≡ true → a * 256 + b ≡ two big (seen file map) at
    unfolding two
    two_big e = rw (ea, eb, e, byte_came 2 t at (omega arith) (omega arith), byte_came 2 t (at + 1) (omega arith) (omega arith))

    pub two_little : big ≡ false → a + b * 256 ≡ two big (seen file map) at
    unfolding two
    two_little e = rw (ea, eb, e, byte_came 2 t at (omega arith) (omega arith), byte_came 2 t (at + 1) (omega arith) (omega arith))

-- and all of them as a list
pub bytes_there : (file map : List ℕ) (n at : ℕ) → There (seen file map) at n → span (seen file map).byte at n ≡ take n (drop at file)
unfolding span
bytes_there file map zero at t = refl
bytes_there file map (suc n) at t =
    let l : at < length file = omega (arith, t.in_file) in
    let b = byte_came file map at (suc n) t at (omega arith) (omega arith) in
    let r = bytes_there file map n (suc at) (there_part (seen file map) at (suc n) (suc at) n t (omega arith) (omega arith)) in
    rw (drop-cons file at 0 l, b, r)

module _ (v : Seen) (at : ℕ) (big : Bool) (a b : ℕ) (ea : a ≡ two big v at) (eb : b ≡ two big v (at + 2)) where
  pub four_big : big ≡ true → a * 65536 + b ≡ four big v at
  unfolding four
  four_big e = rw (ea, eb, e)

  pub four_little : big ≡ false → a + b * 65536 ≡ four big v at
  unfolding four
  four_little e = rw (ea, eb, e)

pub ruleset words = (two_big, two_little, four_big, four_little, rules)
