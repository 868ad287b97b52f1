-- A trace by its first message: what is ahead of it, and how long it is.
use Prim.Native.Nat.{ℕ, zero, suc, ◌+◌, ◌-◌, ◌≤◌}
use mathlib.Core.Path.{◌≡◌, refl, sym, ap, subst, ◌∙◌}
use mathlib.Core.List.{List, [], ◌∷◌}
use mathlib.Core.Bool.{Bool, true, false}
use native.Mathlib.Omega.{arith}
use lib.ListN.{length, drop}
use lib.Dec.{ltb, eqb}
use borrow.Author.Tests.{ltb-false}
use Rattle.lists.specs.Lists.{pick}
use Rattle.trace.specs.declared.Next.{Next}
use Rattle.trace.specs.declared.Next.TheVariants.{Over, Cut, Foreign, Start, Block}
use Rattle.trace.specs.Trace.{start_in, block_in, size_in, next_of, begins_with, length_of, trace_from, trace_of}

-- skipping bytes is dropping them
trace_skip : (t : List ℕ) (k : ℕ) → trace_from t k ≡ trace_of (drop k t)
unfolding trace_from
trace_skip [] zero = refl
trace_skip [] (suc k) = refl
trace_skip (b ∷ t) zero = refl
trace_skip (b ∷ t) (suc k) = trace_skip t k

-- a trace by what it begins with
pub trace_begins : (t : List ℕ) → trace_of t ≡ begins_with (next_of t) (drop 1 t) (trace_of (drop (suc (length_of (next_of t))) t))
unfolding trace_from next_of
trace_begins [] = refl
trace_begins (b ∷ t) = ap (begins_with (next_of (b ∷ t)) t) (trace_skip t (length_of (next_of (b ∷ t))))

-- a message that is not cut is there whole
abbrev Whole : ℕ → Next → Type 0
Whole n Over = Unit
Whole n Cut = Unit
Whole n Foreign = Unit
Whole n (Start size) = 9 ≤ n
Whole n (Block number size) = 11 + size ≤ n

start_whole : (n m : ℕ) (c : Bool) → ltb n 8 ≡ c → Whole (suc n) (pick c Cut (Start m))
start_whole n m true e = tt
start_whole n m false e = omega (arith, ltb-false n 8 e)

block_whole : (n m size : ℕ) (c d : Bool) → ltb n 10 ≡ c → ltb (n - 10) size ≡ d → Whole (suc n) (pick c Cut (pick d Cut (Block m size)))
block_whole n m size true d e f = tt
block_whole n m size false true e f = tt
block_whole n m size false false e f = omega (arith, ltb-false n 10 e, ltb-false (n - 10) size f)

next_whole : (t : List ℕ) → Whole (length t) (next_of t)
unfolding next_of
next_whole [] = tt
next_whole (kind ∷ rest) = by (eqb kind 1) (eqb kind 2)
  where
    by : (a b : Bool) → Whole (suc (length rest)) (pick a (start_in rest) (pick b (block_in rest) Foreign))
    by true b = start_whole (length rest) _ (ltb (length rest) 8) refl
    by false true = block_whole (length rest) _ (size_in rest) (ltb (length rest) 10) (ltb (length rest - 10) (size_in rest)) refl refl
    by false false = tt

module _ (t : List ℕ) {n : Next} (en : n ≡ next_of t) where
  pub start_there : (size : ℕ) → n ≡ Start size → 9 ≤ length t
  start_there size e = subst (Whole (length t)) (sym en ∙ e) (next_whole t)

  pub block_there : (number size : ℕ) → n ≡ Block number size → 11 + size ≤ length t
  block_there number size e = subst (Whole (length t)) (sym en ∙ e) (next_whole t)

  -- the messages of the trace, by the first one
  pub begins : (m : Next) → n ≡ m → trace_of t ≡ begins_with m (drop 1 t) (trace_of (drop (suc (length_of m)) t))
  begins m e = trace_begins t ∙ ap (λ (x : Next). begins_with x (drop 1 t) (trace_of (drop (suc (length_of x)) t))) (sym en ∙ e)
