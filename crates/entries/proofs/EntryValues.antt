-- Type, count and values of an entry that is there: what the code reads is what the definitions say.
use Prim.Native.Nat.{ℕ, ◌+◌, ◌*◌, ◌^◌, ◌<◌, ◌≤◌}
use mathlib.Core.Path.{◌≡◌, refl, sym, ◌∙◌}
use mathlib.Core.Bool.{Bool, true, false}
use mathlib.Core.List.{List}
use native.Mathlib.Omega.{arith}
use native.Mathlib.Nat.{mul-le-mul}
use lib.Dec.{eqb}
use mir.Syntax.{w64}
use mir.Val.{Fits}
use borrow.Author.Rules.{rules}
use borrow.Author.Tests.{eq-eqb, ne_eqb, le-leb, lt-leb}
use Rattle.lists.specs.Lists.{pick}
use Rattle.std.specs.Prelude.{Ok, Err}
use Rattle.checks.specs.Numbers.{no_refusal}
use Rattle.checks.specs.Checks.{Check, verdict}
use Rattle.checks.specs.declared.Refusal.{Refusal}
use Rattle.checks.proofs.Rules.{tests_refused, tests_passed}
use Rattle.seen.specs.Seen.{Seen, there, There, two, four}
use Rattle.seen.proofs.Words.{there_part, there_of}
use Rattle.entries.specs.Values.{count_at, numeric, has_values, size_of, word_at, in_field, place_of, value_at, value_is}
use Rattle.entries.specs.Inner.{WordThere}
use Rattle.tags.proofs.Entries.{type_there}

-- the parts of an entry behind its tag and type: count and field
module _ (v : Seen) (e : ℕ) (t : There v e 12) where
  pub count_there : There v (e + 4) 4
  count_there = there_part v e 12 (e + 4) 4 t (omega arith) (omega arith)

  pub field_there : There v (e + 8) 4
  field_there = there_part v e 12 (e + 8) 4 t (omega arith) (omega arith)

module _ (v : Seen) (big : Bool) (e : ℕ) where
  -- by the type that was read
  module _ (kind : ℕ) (read : kind ≡ two big v (e + 2)) where
    pub numeric_three : kind ≡ 3 → true ≡ numeric v big e
    unfolding numeric
    numeric_three q = simp (← read, eq-eqb _ _ q)

    pub numeric_else : (kind ≡ 3 → ⊥) → eqb kind 4 ≡ numeric v big e
    unfolding numeric
    numeric_else q = simp (← read, ne_eqb _ _ q)

    pub size_three : kind ≡ 3 → 2 ≡ size_of v big e
    unfolding size_of
    size_three q = simp (← read, eq-eqb _ _ q)

    pub size_else : (kind ≡ 3 → ⊥) → 4 ≡ size_of v big e
    unfolding size_of
    size_else q = simp (← read, ne_eqb _ _ q)

  -- by the count that was read
  module _ (count : ℕ) (read : count ≡ count_at v big e) where
    pub as_many : (n : ℕ) {r : Bool} → count ≡ n → r ≡ numeric v big e → r ≡ has_values v big e n
    unfolding has_values
    as_many n q k = simp (← read, eq-eqb _ _ q) k

    pub not_as_many : (n : ℕ) → (count ≡ n → ⊥) → false ≡ has_values v big e n
    unfolding has_values
    not_as_many n q = simp (← read, ne_eqb _ _ q)

    -- where value i lies
    module _ (i size : ℕ) (measured : size ≡ size_of v big e) where
      pub place_inline : size * count ≤ 4 → e + 8 + size * i ≡ place_of v big e i
      unfolding place_of in_field
      place_inline q = simp (← read, ← measured, le-leb _ _ q)

      pub place_else : 4 < size * count → (offset : ℕ) → offset ≡ four big v (e + 8) → offset + size * i ≡ place_of v big e i
      unfolding place_of in_field
      place_else q offset o = simp (← read, ← measured, ← o, lt-leb _ _ q)

  -- one value, by the size of its type
  size_word : (p : ℕ) (b : Bool) → pick b (two big v p) (four big v p) ≡ pick (eqb (pick b 2 4) 2) (two big v p) (four big v p)
  size_word p true = refl
  size_word p false = refl

  module _ (size : ℕ) (measured : size ≡ size_of v big e) (p : ℕ) where
    pub word_two : {r : ℕ} → size ≡ 2 → r ≡ two big v p → r ≡ word_at v big e p
    unfolding word_at size_of
    word_two q r = r ∙ sym (size_word p (eqb (two big v (e + 2)) 3) ∙ simp (← measured, eq-eqb _ _ q))

    pub word_four : {r : ℕ} → (size ≡ 2 → ⊥) → r ≡ four big v p → r ≡ word_at v big e p
    unfolding word_at size_of
    word_four q r = r ∙ sym (size_word p (eqb (two big v (e + 2)) 3) ∙ simp (← measured, ne_eqb _ _ q))

  size_small : size_of v big e ≤ 4
  unfolding size_of
  size_small = by (eqb (two big v (e + 2)) 3)
    where
      by : (b : Bool) → pick b 2 4 ≤ 4
      by true = omega arith
      by false = omega arith

  size_else_four : (size_of v big e ≡ 2 → ⊥) → size_of v big e ≡ 4
  unfolding size_of
  size_else_four = by (eqb (two big v (e + 2)) 3)
    where
      by : (b : Bool) → (◌≡◌ {A = ℕ} (pick b 2 4) 2 → ⊥) → ◌≡◌ {A = ℕ} (pick b 2 4) 4
      by true q = absurd (q refl)
      by false q = refl

  -- the bytes of a value that is there
  module _ (p size : ℕ) (t : WordThere v big e p) (measured : size ≡ size_of v big e) where
    pub two_there : size ≡ 2 → There v p 2
    two_there q = rw (sym measured ∙ q) at t.word

    pub four_there : (size ≡ 2 → ⊥) → There v p 4
    four_there q = rw (size_else_four (λ z. q (measured ∙ z))) at t.word

  -- a single value lies in the entry's field
  pub scalar_there : There v e 12 → WordThere v big e (e + 8)
  scalar_there t =
      let s = size_small in
      record { entry = t; word = there_part v e 12 (e + 8) (size_of v big e) t (omega arith) (omega arith) }

  -- value i is there with its entry, and given where its bytes are
  module _ (i at size : ℕ) (placed : at ≡ place_of v big e i) (measured : size ≡ size_of v big e) where
    pub value_refused : {r : Refusal} → Err r ≡ verdict (there v at size) → Err r ≡ value_is v big e i
    unfolding value_is
    value_refused q = rw (← placed, ← measured, ← q)

    module _ {y : Unit {0}} (q : Ok y ≡ verdict (there v at size)) where
      pub value_there : There v e 12 → WordThere v big e at
      value_there t = record { entry = t; word = rw measured at (there_of v at size q) }

      pub value_given : {n : ℕ} → n ≡ word_at v big e at → Ok n ≡ value_is v big e i
      unfolding value_is
      value_given w = rw (← placed, ← measured, ← q, ← w)

-- what a value says of the check of its bytes
module _ (v : Seen) (big : Bool) (e i : ℕ) where
  abbrev bytes : List Check
  bytes = there v (place_of v big e i) (size_of v big e)

  pub value_stops : {r : Refusal} → Err r ≡ value_is v big e i → verdict bytes ≡ Err r
  unfolding value_is
  value_stops q = tests_refused (verdict bytes) (value_at v big e i) _ q

  pub value_is_lem : {x : ℕ} → Ok x ≡ value_is v big e i → (verdict bytes ≡ no_refusal) × (x ≡ value_at v big e i)
  unfolding value_is
  value_is_lem q = tests_passed (verdict bytes) (value_at v big e i) _ q

-- places that fit a word
module _ (size i : ℕ) (small : size < 5) (some : i < 4294967296) where
  scaled_small : size * i ≤ 4 * 4294967296
  scaled_small = mul-le-mul {n₂ = 4} {m₂ = 4294967296} (omega arith) (omega arith)

  pub scaled_fits : Fits w64 (size * i)
  scaled_fits = record { fits = omega (arith, scaled_small) }

  pub placed_fits : (start : ℕ) → start < 2 ^ 63 → Fits w64 (start + size * i)
  placed_fits start low = record { fits = omega (arith, scaled_small) }

pub ruleset entries = (
  type_there,
  count_there,
  field_there,
  numeric_three,
  numeric_else,
  size_three,
  size_else,
  as_many,
  not_as_many,
  two_there,
  four_there,
  word_two,
  word_four,
  scalar_there,
  rules,
)

pub ruleset places = (field_there, place_inline, place_else, scaled_fits, placed_fits, rules)
