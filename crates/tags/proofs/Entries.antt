-- The entries of a directory: a tag's slot, one entry against the slots so far, and the loop over all.
use Prim.Native.Nat.{ℕ, zero, suc, ◌+◌, ◌*◌, ◌<◌, ◌≤◌}
use mathlib.Core.Path.{◌≡◌, refl, sym, ap, ◌∙◌}
use mathlib.Core.List.{List, [], ◌∷◌, map}
use mathlib.Core.Bool.{Bool, cond, true, false, not, ◌&&◌, ◌||◌, and-false}
use native.Mathlib.Omega.{arith}
use native.Mathlib.Numerals.{add-one}
use native.Mathlib.Nat.{le_antisymm}
use lib.ListN.{length, get_or, set}
use lib.Dec.{ltb, eqb}
use borrow.Author.Tests.{lt-ltb, le-ltb, eq-eqb, ne_eqb, eqb-true, eqb-false, ltb-true, ltb-false}
use Rattle.lists.specs.Lists.{pick}
use Rattle.seen.specs.Seen.{Seen, There}
use Rattle.seen.proofs.Blocks.{true_false}
use Rattle.seen.proofs.Words.{there_part}
use Rattle.tags.specs.Slots.{known, entry_in, absent}
use Rattle.tags.specs.Tags.{index_in, slot_of, none, tag_at, type_at, entry_of, fresh, tags_fine, slots_in}
use Rattle.tags.specs.Inner.{slot_if_known, free, entered, entered_in, tags_of, EntryThere, SlotsThere}
use Rattle.std.specs.Prelude.{Some, None}
use Rattle.std.specs.List.{position, position_or_len}
use Rattle.std.proofs.lemmas.List.Recursion.{is_position_or_len}

-- the first place of a number, in the library's words
place_is : (t : ℕ) (xs : List ℕ) → index_in xs t ≡ position_or_len (λ x. eqb x t) xs
unfolding index_in
place_is t = is_position_or_len (λ (xs : List ℕ). index_in xs t) (λ x. eqb x t) refl (λ x xs. by (index_in xs t) (eqb x t))
  where
    by : (n : ℕ) (b : Bool) → pick b 0 (suc n) ≡ cond b 0 (1 + n)
    by n true = refl
    by n false = omega arith

pub slot_found : (t : ℕ) → position (λ x. eqb x t) known ≡ slot_if_known t
unfolding known
slot_found t = rw (place_is t known) (by (ltb (position_or_len (λ x. eqb x t) known) 19))
  where
    by : (b : Bool) → cond b (Some (position_or_len (λ x. eqb x t) known)) None ≡ pick b (Some (position_or_len (λ x. eqb x t) known)) None
    by true = refl
    by false = refl

-- a slot that is known has its place among the nineteen
known_place : {k : ℕ} (t : ℕ) → Some k ≡ slot_if_known t → (k ≡ slot_of t) × (k < 19)
known_place {k} t q = by (ltb (slot_of t) 19) refl q
  where
    by : (b : Bool) → ltb (slot_of t) 19 ≡ b → Some k ≡ pick b (Some (slot_of t)) None → (k ≡ slot_of t) × (k < 19)
    by true e q = let z : k ≡ slot_of t = cc in (z, omega (arith, z, ltb-true (slot_of t) 19 e))
    by false e q = absurd cc

unknown_place : (t : ℕ) → None ≡ slot_if_known t → 19 ≤ slot_of t
unknown_place t q = by (ltb (slot_of t) 19) refl q
  where
    by : (b : Bool) → ltb (slot_of t) 19 ≡ b → None ≡ pick b (Some (slot_of t)) None → 19 ≤ slot_of t
    by true e q = absurd cc
    by false e q = ltb-false (slot_of t) 19 e

-- one entry
pub tag_there : (v : Seen) (e : ℕ) → There v e 12 → There v e 2
tag_there v e t = there_part v e 12 e 2 t (omega arith) (omega arith)

pub type_there : (v : Seen) (e : ℕ) → There v e 12 → There v (e + 2) 2
type_there v e t = there_part v e 12 (e + 2) 2 t (omega arith) (omega arith)

pub slot_within : {k : ℕ} (t : ℕ) → Some k ≡ slot_if_known t → k < 19
slot_within t q = (known_place t q).1

module _ (v : Seen) (big : Bool) (e : ℕ) (slots : List ℕ) {tag : ℕ} (eg : tag ≡ tag_at v big e) where
  pub passed_over : None ≡ slot_if_known tag → Some slots ≡ entered_in v big e slots
  unfolding free entered
  passed_over q = rw (← eg) (simp (le-ltb _ _ (unknown_place tag q)))

  module _ {k : ℕ} (q : Some k ≡ slot_if_known tag) {type : ℕ} (et : type ≡ type_at v big e) where
    pub no_type : type ≡ 0 → None ≡ entered_in v big e slots
    unfolding free
    no_type z = let (p, l) = known_place tag q in rw (← eg, ← et, ← p) (simp (lt-ltb _ _ l, eq-eqb _ _ z))

    pub taken : (type ≡ 0 → ⊥) → (get_or slots k 0 ≡ 0 → ⊥) → None ≡ entered_in v big e slots
    unfolding free
    taken nz z = let (p, l) = known_place tag q in rw (← eg, ← et, ← p) (simp (lt-ltb _ _ l, ne_eqb _ _ nz, ne_eqb _ _ z))

    pub slot_set : (type ≡ 0 → ⊥) → get_or slots k 0 ≡ 0 → Some (set slots k e) ≡ entered_in v big e slots
    unfolding free entered
    slot_set nz z = let (p, l) = known_place tag q in rw (← eg, ← et, ← p) (simp (lt-ltb _ _ l, ne_eqb _ _ nz, eq-eqb _ _ z))

pub ruleset entries = (slot_within, passed_over, no_type, taken, slot_set)

-- an entry that is not absent is there
pub entry_is_there : (v : Seen) (e : ℕ) → EntryThere v e → (e ≡ 0 → ⊥) → There v e 12
entry_is_there v e t n = t.entry n

pub slot_is_there : (v : Seen) (slots : List ℕ) (k : ℕ) → SlotsThere v slots → EntryThere v (entry_in slots k)
slot_is_there v slots k t = t.at_slot k

-- numbers by the place of their tag in a list that has each tag once
pub map_at : (f : ℕ → ℕ) (xs : List ℕ) (k : ℕ) → k < length xs → get_or (map f xs) k 0 ≡ f (get_or xs k 0)
map_at f [] k h = absurd (omega arith)
map_at f (x ∷ xs) zero h = refl
map_at f (x ∷ xs) (suc k) h = map_at f xs k (omega arith)

place_most : (xs : List ℕ) (t : ℕ) → index_in xs t ≤ length xs
unfolding index_in
place_most [] t = omega arith
place_most (x ∷ xs) t = by (eqb x t) (place_most xs t)
  where
    by : (b : Bool) → index_in xs t ≤ length xs → pick b 0 (suc (index_in xs t)) ≤ suc (length xs)
    by true h = omega arith
    by false h = omega arith

Absent : List ℕ → ℕ → Type 0
Absent xs t = index_in xs t ≡ length xs

-- each number once, as a test that computes
distinct : List ℕ → Bool
distinct [] = true
distinct (x ∷ xs) = eqb (index_in xs x) (length xs) && distinct xs

known_distinct : distinct known ≡ true
unfolding distinct known index_in
known_distinct = refl

distinct_parts : (x : ℕ) (xs : List ℕ) → distinct (x ∷ xs) ≡ true → Absent xs x × (distinct xs ≡ true)
unfolding distinct Absent
distinct_parts x xs d = by (eqb (index_in xs x) (length xs)) refl d
  where
    by : (t : Bool) → eqb (index_in xs x) (length xs) ≡ t → t && distinct xs ≡ true → (index_in xs x ≡ length xs) × (distinct xs ≡ true)
    by true q h = (eqb-true (index_in xs x) (length xs) q, h)
    by false q h = absurd (true_false h refl)

absent_rest : (x : ℕ) (xs : List ℕ) (t : ℕ) → Absent (x ∷ xs) t → (x ≡ t → ⊥) × Absent xs t
unfolding Absent index_in
absent_rest x xs t a = by (eqb x t) refl a
  where
    by : (b : Bool) → eqb x t ≡ b → pick b 0 (suc (index_in xs t)) ≡ suc (length xs) → (x ≡ t → ⊥) × (index_in xs t ≡ length xs)
    by true q z = absurd (omega arith)
    by false q z = (eqb-false x t q, omega arith)

module _ (f : ℕ → ℕ) (t e : ℕ) where
  -- f with another number at one tag
  abbrev with : ℕ → ℕ
  with u = pick (eqb t u) e (f u)

  map_other : (xs : List ℕ) → Absent xs t → map with xs ≡ map f xs
  map_other [] a = refl
  map_other (x ∷ xs) a =
      let r = absent_rest x xs t a in
      rw (ne_eqb t x (λ (q : t ≡ x). r.0 (sym q)), map_other xs r.1)

  map_place : (xs : List ℕ) → index_in xs t < length xs → get_or (map f xs) (index_in xs t) 0 ≡ f t
  unfolding index_in
  map_place [] h = absurd (omega arith)
  map_place (x ∷ xs) h = by (eqb x t) refl h (map_place xs)
    where
      by : (b : Bool) → eqb x t ≡ b → pick b 0 (suc (index_in xs t)) < suc (length xs) → (index_in xs t < length xs → get_or (map f xs) (index_in xs t) 0 ≡ f t)
          → get_or (f x ∷ map f xs) (pick b 0 (suc (index_in xs t))) 0 ≡ f t
      by true q l k = ap f (eqb-true x t q)
      by false q l k = k (omega arith)

  set_place : (xs : List ℕ) → distinct xs ≡ true → index_in xs t < length xs → set (map f xs) (index_in xs t) e ≡ map with xs
  unfolding index_in
  set_place [] d h = absurd (omega arith)
  set_place (x ∷ xs) d h = by (eqb x t) refl h (set_place xs (distinct_parts x xs d).1)
    where
      by : (b : Bool) → eqb x t ≡ b → pick b 0 (suc (index_in xs t)) < suc (length xs)
          → (index_in xs t < length xs → set (map f xs) (index_in xs t) e ≡ map with xs)
          → set (f x ∷ map f xs) (pick b 0 (suc (index_in xs t))) e ≡ with x ∷ map with xs
      by true q l k =
          let a : Absent xs t = rw (← eqb-true x t q) (distinct_parts x xs d).0 in
          rw (eq-eqb t x (sym (eqb-true x t q)), map_other xs a)
      by false q l k = rw (ne_eqb t x (λ (z : t ≡ x). eqb-false x t q (sym z)), k (omega arith))

known_slot : (t : ℕ) → ltb (slot_of t) 19 ≡ true → index_in known t < length known
unfolding known
known_slot t q = ltb-true (slot_of t) 19 q

unknown_slot : (t : ℕ) → ltb (slot_of t) 19 ≡ false → Absent known t
unfolding known Absent
unknown_slot t q = le_antisymm (place_most known t) (ltb-false (slot_of t) 19 q)

-- what one entry does to the slots of those before it
module _ (v : Seen) (big : Bool) (first i : ℕ) where
  abbrev place : ℕ
  place = first + 12 * i

  abbrev tag : ℕ
  tag = tag_at v big place

  -- the entry of a tag among those before this one
  abbrev before : ℕ → ℕ
  before t = entry_of v big first t i

  abbrev allowed : Bool → ℕ → Bool
  allowed b e = not b || (not (eqb (type_at v big place) 0) && absent e)

  free_is : free v big (first + 12 * i) (slots_in v big first i) ≡ fresh v big first i
  unfolding free fresh slots_in
  free_is = by (ltb (slot_of tag) 19) refl
    where
      by : (b : Bool) → ltb (slot_of tag) 19 ≡ b → allowed b (get_or (map before known) (slot_of tag) 0) ≡ allowed b (before tag)
      by true q = rw (map_place before tag 0 known (known_slot tag q))
      by false q = refl

  entered_is : entered v big (first + 12 * i) (slots_in v big first i) ≡ slots_in v big first (i + 1)
  unfolding entered slots_in entry_of
  entered_is = rw (add-one i) (by (ltb (slot_of tag) 19) refl)
    where
      by : (b : Bool) → ltb (slot_of tag) 19 ≡ b → pick b (set (map before known) (slot_of tag) place) (map before known) ≡ map (with before tag place) known
      by true q = set_place before tag place known known_distinct (known_slot tag q)
      by false q = sym (map_other before tag place known (unknown_slot tag q))

tags_bad : (v : Seen) (big : Bool) (first n i : ℕ) → i < n → fresh v big first i ≡ false → tags_fine v big first n ≡ false
unfolding tags_fine
tags_bad v big first zero i h f = absurd (omega arith)
tags_bad v big first (suc n) i h f = by (eqb i n) refl (λ l. tags_bad v big first n i l f)
  where
    by : (b : Bool) → eqb i n ≡ b → (i < n → tags_fine v big first n ≡ false) → (tags_fine v big first n && fresh v big first n) ≡ false
    by true q k = rw (← eqb-true i n q, f, and-false (tags_fine v big first i))
    by false q k = rw (k (omega (arith, eqb-false i n q)))

-- the loop over entries
pub record Tagging (v : Seen) (big : Bool) (first i : ℕ) (slots : List ℕ) : Type 0 where
  pub fine_so_far : tags_fine v big first i ≡ true
  pub slots_are : slots ≡ slots_in v big first i

pub tagging_none : (v : Seen) (big : Bool) (first : ℕ) → Tagging v big first 0 none
unfolding tags_fine slots_in entry_of known
tagging_none v big first = record { fine_so_far = refl; slots_are = refl }

pub entry_there : (v : Seen) (first n i : ℕ) → There v first (12 * n) → i < n → There v (first + 12 * i) 12
entry_there v first n i t h = there_part v first (12 * n) (first + 12 * i) 12 t (omega arith) (omega arith)

module _ (v : Seen) (big : Bool) (first n i : ℕ) (slots : List ℕ) (g : Tagging v big first i slots) where
  entering : entered_in v big (first + 12 * i) slots ≡ pick (fresh v big first i) (Some (slots_in v big first (i + 1))) None
  entering = rw (g.slots_are, free_is v big first i, entered_is v big first i)

  pub tag_refused : i < n → None ≡ entered_in v big (first + 12 * i) slots → None ≡ tags_of v big first n
  tag_refused h q = by (fresh v big first i) refl (q ∙ entering)
    where
      by : (b : Bool) → fresh v big first i ≡ b → None ≡ pick b (Some (slots_in v big first (i + 1))) None → None ≡ tags_of v big first n
      by true e q = absurd cc
      by false e q = rw (tags_bad v big first n i h e)

  pub tagging_more : {more : List ℕ} → Some more ≡ entered_in v big (first + 12 * i) slots → Tagging v big first (i + 1) more
  unfolding tags_fine
  tagging_more {more} q = by (fresh v big first i) refl (q ∙ entering)
    where
      by : (b : Bool) → fresh v big first i ≡ b → Some more ≡ pick b (Some (slots_in v big first (i + 1))) None → Tagging v big first (i + 1) more
      by true e q = record { fine_so_far = rw (add-one i, g.fine_so_far) e; slots_are = cc }
      by false e q = absurd cc

  pub tagging_all : i ≡ n → Some slots ≡ tags_of v big first n
  tagging_all z = rw (← z, g.fine_so_far) (ap Some g.slots_are)

pub ruleset taggings = (tag_refused, tagging_more, tagging_all)
