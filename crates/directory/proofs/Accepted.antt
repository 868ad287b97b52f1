-- A directory passes its checks exactly if it is fine, what it charges, and what a slot then holds.
use Prim.Native.Nat.{ℕ, zero, suc, ◌+◌, ◌*◌, ◌<◌}
use mathlib.Core.Path.{◌≡◌, refl, sym, ap, ◌∙◌}
use mathlib.Core.Logic.{◌↔◌, ◌⊎◌, inl, inr, ⊎_elim}
use mathlib.Core.List.{List, [], ◌∷◌, ◌++◌}
use mathlib.Core.Bool.{Bool, true, false, not, ◌&&◌, ◌||◌}
use native.Mathlib.Omega.{arith}
use native.Mathlib.Nat.{eq-or-lt_of_le}
use lib.ListN.{length, get_or, get_or-eq_default}
use lib.Dec.{ltb, leb, eqb}
use borrow.Author.Tests.{ltb-true, ltb-false, leb-true, eqb-true, eqb-false, lt-ltb, le-leb, eq-eqb, ne_eqb}
use Rattle.lists.specs.Lists.{pick}
use Rattle.checks.specs.Numbers.{invalid, limit}
use Rattle.checks.specs.Checks.{Check, must, Holds, cost}
use Rattle.checks.proofs.Exact.{holds_then, holds_both}
use Rattle.seen.specs.Seen.{Seen, there, There}
use Rattle.seen.proofs.Blocks.{true_false}
use Rattle.seen.proofs.Words.{there_part, there_holds, holds_there}
use Rattle.tags.specs.Slots.{known, entry_in}
use Rattle.tags.specs.Tags.{index_in, slot_of, type_at, entry_of, fresh, tags_fine, slots_in}
use Rattle.directory.specs.Directory.{entries_at, slots_at, count_checks, body_checks, directory_fee_checks, tag_checks, directory_checks}
use Rattle.directory.specs.Accepted.{entry_at, tag_of, DirectoryFine, HasTag}
use Rattle.tags.specs.Inner.{SlotsThere}
use Rattle.tags.proofs.Entries.{map_at}

-- which entry of a tag a directory shows: none of the first n has it, or it is the last of those that have it
record Shown (v : Seen) (big : Bool) (at tag n i : ℕ) : Type 0 where
  before : i < n
  tagged : tag_of v big at i ≡ tag
  shown : entry_of v big (at + 2) tag n ≡ entry_at at i

record Absent (v : Seen) (big : Bool) (at tag n : ℕ) : Type 0 where
  nobody : (j : ℕ) → j < n → tag_of v big at j ≡ tag → ⊥
  nowhere : entry_of v big (at + 2) tag n ≡ 0

module _ (v : Seen) (big : Bool) (at tag : ℕ) where
  looked : (n : ℕ) → Absent v big at tag n ⊎ ((i : ℕ) × Shown v big at tag n i)
  unfolding entry_of
  looked zero = inl (record { nobody = λ j l q. absurd (omega arith); nowhere = refl })
  looked (suc n) = by (eqb (tag_of v big at n) tag) refl (looked n)
    where
      by : (t : Bool) → eqb (tag_of v big at n) tag ≡ t → Absent v big at tag n ⊎ ((i : ℕ) × Shown v big at tag n i)
          → Absent v big at tag (suc n) ⊎ ((i : ℕ) × Shown v big at tag (suc n) i)
      by true e r = inr (n, record { before = omega arith; tagged = eqb-true (tag_of v big at n) tag e; shown = rw e })
      by false e (inl a) = inl (record {
        nobody = λ j l q.
            ⊎_elim (λ (z : j ≡ n). eqb-false (tag_of v big at n) tag e (ap (tag_of v big at) (sym z) ∙ q)) (λ (k : j < n). a.nobody j k q)
            (eq-or-lt_of_le (omega arith));
        nowhere = rw e a.nowhere;
      })
      by false e (inr (i, s)) = inr (i, record { before = omega (arith, s.before); tagged = s.tagged; shown = rw e s.shown })

  absent_if : (n : ℕ) → entry_of v big (at + 2) tag n ≡ 0 → (j : ℕ) → j < n → tag_of v big at j ≡ tag → ⊥
  absent_if n e = ⊎_elim (λ (a : Absent v big at tag n). a.nobody) (λ (s : (i : ℕ) × Shown v big at tag n i). absurd (omega (arith, s.1.shown))) (looked n)

  if_absent : (n : ℕ) → ((j : ℕ) → j < n → tag_of v big at j ≡ tag → ⊥) → entry_of v big (at + 2) tag n ≡ 0
  if_absent n f =
      ⊎_elim (λ (a : Absent v big at tag n). a.nowhere) (λ (s : (i : ℕ) × Shown v big at tag n i). absurd (f s.0 s.1.before s.1.tagged))
      (looked n)

-- an entry that may stand: its tag is not known, or it has a type and no entry before it has its tag
module _ (v : Seen) (big : Bool) (at : ℕ) where
  record Stands (i : ℕ) : Type 0 where
    has_type : slot_of (tag_of v big at i) < 19 → type_at v big (entry_at at i) ≡ 0 → ⊥
    is_first : slot_of (tag_of v big at i) < 19 → (j : ℕ) → j < i → tag_of v big at j ≡ tag_of v big at i → ⊥

  fresh_stands : (i : ℕ) → fresh v big (at + 2) i ≡ true → Stands i
  unfolding fresh
  fresh_stands i e = by (ltb slot 19) (eqb type 0) (eqb earlier 0) refl refl refl e
    where
      slot : ℕ
      slot = slot_of (tag_of v big at i)

      type : ℕ
      type = type_at v big (entry_at at i)

      earlier : ℕ
      earlier = entry_of v big (at + 2) (tag_of v big at i) i

      by : (a b c : Bool) → ltb slot 19 ≡ a → eqb type 0 ≡ b → eqb earlier 0 ≡ c → not a || (not b && c) ≡ true → Stands i
      by false b c p q r e = record { has_type = λ k z. omega (arith, ltb-false slot 19 p); is_first = λ k j l z. omega (arith, ltb-false slot 19 p) }
      by true false true p q r e =
          record { has_type = λ k. eqb-false type 0 q; is_first = λ k. absent_if v big at (tag_of v big at i) i (eqb-true earlier 0 r) }
      by true false false p q r e = absurd (true_false e refl)
      by true true c p q r e = absurd (true_false e refl)

  stands_fresh : (i : ℕ) → Stands i → fresh v big (at + 2) i ≡ true
  unfolding fresh
  stands_fresh i s = by (ltb (slot_of (tag_of v big at i)) 19) refl
    where
      by : (a : Bool) → ltb (slot_of (tag_of v big at i)) 19 ≡ a
          → not a || (not (eqb (type_at v big (entry_at at i)) 0) && eqb (entry_of v big (at + 2) (tag_of v big at i) i) 0) ≡ true
      by true p =
          let k : slot_of (tag_of v big at i) < 19 = ltb-true (slot_of (tag_of v big at i)) 19 p in
          rw (ne_eqb (type_at v big (entry_at at i)) 0 (s.has_type k), if_absent v big at (tag_of v big at i) i (s.is_first k))
      by false p = refl

  tags_stand : (n : ℕ) → tags_fine v big (at + 2) n ≡ true → (i : ℕ) → i < n → Stands i
  unfolding tags_fine
  tags_stand zero e i l = absurd (omega arith)
  tags_stand (suc n) e i l = by (tags_fine v big (at + 2) n) (fresh v big (at + 2) n) refl refl e (tags_stand n)
    where
      by : (a b : Bool) → tags_fine v big (at + 2) n ≡ a → fresh v big (at + 2) n ≡ b → a && b ≡ true
          → (tags_fine v big (at + 2) n ≡ true → (i : ℕ) → i < n → Stands i) → Stands i
      by true true p q e k = ⊎_elim (λ (z : i ≡ n). rw z (fresh_stands n q)) (λ (h : i < n). k p i h) (eq-or-lt_of_le (omega arith))
      by true false p q e k = absurd (true_false e refl)
      by false b p q e k = absurd (true_false e refl)

  stand_tags : (n : ℕ) → ((i : ℕ) → i < n → Stands i) → tags_fine v big (at + 2) n ≡ true
  unfolding tags_fine
  stand_tags zero f = refl
  stand_tags (suc n) f = rw (stand_tags n (λ i l. f i (omega arith)), stands_fresh n (f n (omega arith)))

  module _ (maxTags : ℕ) where
    -- the four parts of a directory's list, the first of them in two
    abbrev n : ℕ
    n = entries_at v big at

    abbrev number : List Check
    number = must (ltb 0 n) invalid ∷ must (leb n maxTags) limit ∷ []

    abbrev paid_tags : List Check
    paid_tags = directory_fee_checks v big at ++ tag_checks v big at

    directory_is : Holds (directory_checks v big maxTags at) → DirectoryFine v big maxTags at
    unfolding Holds directory_checks count_checks
    directory_is h =
        let x = holds_then (count_checks v big maxTags at) (body_checks v big at ++ paid_tags) h in
        let c = holds_then (there v at 2) number x.0 in
        let b = holds_then (body_checks v big at) paid_tags x.1 in
        let s = tags_stand n b.1.0 in
        record {
          count_there = holds_there v at 2 c.0;
          some_entries = ltb-true 0 n c.1.0;
          few_entries = leb-true n maxTags c.1.1.0;
          entries_there = holds_there v (at + 2) (12 * n + 4) b.0;
          typed = λ i l. (s i l).has_type;
          once = λ i j l m k. (s i l).is_first k j m;
        }

    directory_passes : DirectoryFine v big maxTags at → Holds (directory_checks v big maxTags at)
    unfolding Holds directory_checks count_checks
    directory_passes f =
        let s : (i : ℕ) → i < n → Stands i = λ i l. record { has_type = f.typed i l; is_first = λ k j m. f.once i j l m k } in
        let within : Holds number = (lt-ltb 0 n f.some_entries, (le-leb n maxTags f.few_entries, tt)) in
        let count = holds_both (there v at 2) number (there_holds v at 2 f.count_there) within in
        let body = holds_both (body_checks v big at) paid_tags (there_holds v (at + 2) (12 * n + 4) f.entries_there) (stand_tags n s, tt) in
        holds_both (count_checks v big maxTags at) (body_checks v big at ++ paid_tags) count body

    pub directory_fine : Holds (directory_checks v big maxTags at) ↔ DirectoryFine v big maxTags at
    directory_fine = (directory_is, directory_passes)

    pub directory_cost : cost (directory_checks v big maxTags at) ≡ entries_at v big at + 1
    unfolding cost directory_checks count_checks
    directory_cost = omega arith

-- what slot k of a directory holds
place_within : (l : List ℕ) (k : ℕ) → k < length l → index_in l (get_or l k 0) < length l
unfolding index_in
place_within [] k h = absurd (omega arith)
place_within (x ∷ l) zero h = rw (eq-eqb x x refl) (omega arith)
place_within (x ∷ l) (suc k) h = by (eqb x (get_or l k 0)) (place_within l k (omega arith))
  where
    by : (t : Bool) → index_in l (get_or l k 0) < length l → pick t 0 (suc (index_in l (get_or l k 0))) < suc (length l)
    by true z = omega arith
    by false z = omega arith

slot_of_known : (k : ℕ) → k < 19 → {t : ℕ} → t ≡ get_or known k 0 → slot_of t < 19
unfolding known
slot_of_known k h e = rw e (place_within known k h)

module _ (v : Seen) (big : Bool) (at k : ℕ) (is-slot : k < 19) where
  abbrev held : ℕ
  held = entry_in (slots_at v big at) k

  abbrev tag : ℕ
  tag = get_or known k 0

  -- an entry that has the slot's tag, and stands where the slot says
  abbrev Holder : Type 0
  Holder = (i : ℕ) × HasTag v big at k i × (held ≡ entry_at at i)

  held_is : held ≡ entry_of v big (at + 2) tag (entries_at v big at)
  unfolding slots_in known
  held_is = map_at (λ t. entry_of v big (at + 2) t (entries_at v big at)) known k is-slot

  -- 0 exactly if no entry has the slot's tag
  pub slot_absent : (entry_in (slots_at v big at) k ≡ 0) ↔ ((i : ℕ) → HasTag v big at k i → ⊥)
  slot_absent = (
    λ e i t. absent_if v big at tag (entries_at v big at) (sym held_is ∙ e) i t.an_entry t.its_tag,
    λ f. held_is ∙ if_absent v big at tag (entries_at v big at) (λ i l q. f i (record { an_entry = l; its_tag = q })),
  )

  -- else the place of an entry that has it
  pub slot_present : (entry_in (slots_at v big at) k ≡ 0 → ⊥) → (i : ℕ) × HasTag v big at k i × (entry_in (slots_at v big at) k ≡ entry_at at i)
  slot_present n = by (looked v big at tag (entries_at v big at))
    where
      by : Absent v big at tag (entries_at v big at) ⊎ ((i : ℕ) × Shown v big at tag (entries_at v big at) i) → Holder
      by (inl a) = absurd (n (held_is ∙ a.nowhere))
      by (inr (i, s)) = (i, record { an_entry = s.before; its_tag = s.tagged }, held_is ∙ s.shown)

  -- in a fine directory it is the one entry that has it
  module _ (maxTags : ℕ) (f : DirectoryFine v big maxTags at) (i : ℕ) (l : i < entries_at v big at) where
    its_holder : held ≡ entry_at at i → tag_of v big at i ≡ tag
    its_holder e =
        let s = slot_present (λ z. omega arith) in
        let same : s.0 ≡ i = omega (arith, s.2) in
        ap (tag_of v big at) (sym same) ∙ s.1.its_tag

    only_one : tag_of v big at i ≡ tag → Holder → held ≡ entry_at at i
    only_one q (j, t, e) = by (ltb i j) (ltb j i) refl refl
      where
        by : (a b : Bool) → ltb i j ≡ a → ltb j i ≡ b → held ≡ entry_at at i
        by true b x y = absurd (f.once j i t.an_entry (ltb-true i j x) (slot_of_known k is-slot t.its_tag) (q ∙ sym t.its_tag))
        by false true x y = absurd (f.once i j l (ltb-true j i y) (slot_of_known k is-slot q) (t.its_tag ∙ sym q))
        by false false x y = let z : j ≡ i = omega (arith, ltb-false i j x, ltb-false j i y) in e ∙ ap (entry_at at) z

    pub slot_entry : (entry_in (slots_at v big at) k ≡ entry_at at i) ↔ (tag_of v big at i ≡ get_or known k 0)
    slot_entry = (its_holder, λ q. only_one q (slot_present (λ e. slot_absent.0 e i (record { an_entry = l; its_tag = q }))))

-- the entries that the slots of a fine directory name are there
slots_length : (v : Seen) (big : Bool) (at : ℕ) → length (slots_at v big at) ≡ 19
unfolding slots_in known
slots_length v big at = refl

module _ (v : Seen) (big : Bool) (maxTags at : ℕ) (f : DirectoryFine v big maxTags at) where
  named_there : (k : ℕ) → (entry_in (slots_at v big at) k ≡ 0 → ⊥) → There v (entry_in (slots_at v big at) k) 12
  named_there k some = by (ltb k 19) refl
    where
      by : (b : Bool) → ltb k 19 ≡ b → There v (entry_in (slots_at v big at) k) 12
      by true e =
          let (i, t, q) = slot_present v big at k (ltb-true k 19 e) some in
          rw q (there_part v (at + 2) (12 * entries_at v big at + 4) (entry_at at i) 12 f.entries_there (omega arith) (omega (arith, t.an_entry)))
      by false e = absurd (some (get_or-eq_default (slots_at v big at) 0 (omega (arith, slots_length v big at, ltb-false k 19 e))))

  pub slots_there : SlotsThere v (slots_at v big at)
  slots_there = record { at_slot = λ k. record { entry = named_there k } }
