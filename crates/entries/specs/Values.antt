-- Values of an entry: those that take four bytes or fewer together stand in the entry's field, others at the place that the field holds.
use Rattle.std.specs.Prelude.{ℕ, ◌+◌, ◌*◌, Bool, ◌&&◌, ◌||◌, leb, eqb, Result}
use Rattle.lists.specs.Lists.{pick}
use Rattle.checks.specs.Checks.{verdict, giving}
use Rattle.checks.specs.declared.Refusal.{Refusal}
use Rattle.seen.specs.Seen.{Seen, there, two, four}
use Rattle.tags.specs.Tags.{type_at}

module _ (v : Seen) (big : Bool) (e : ℕ) where
  -- how many values an entry has, and whether they are n of type 3 or 4 (rule 2.11)
  abbrev pub count_at : ℕ
  count_at = four big v (e + 4)

  unfoldable pub numeric : Bool
  numeric = eqb (type_at v big e) 3 || eqb (type_at v big e) 4

  unfoldable pub has_values : ℕ → Bool
  has_values n = eqb count_at n && numeric

  -- type 3 has two bytes, type 4 four (rule 2.11)
  unfoldable pub size_of : ℕ
  size_of = pick (eqb (type_at v big e) 3) 2 4

  -- the value of the entry's type at a place
  unfoldable pub word_at : ℕ → ℕ
  word_at p = pick (eqb (type_at v big e) 3) (two big v p) (four big v p)

  -- a single value (rule 2.12)
  abbrev pub scalar_of : ℕ
  scalar_of = word_at (e + 8)

  -- whether the values stand in the entry itself (rules 2.12 and 2.13)
  unfoldable pub in_field : Bool
  in_field = leb (size_of * count_at) 4

  -- where value i lies (rules 2.12 and 2.13)
  unfoldable pub place_of : ℕ → ℕ
  place_of i = pick in_field (e + 8) (four big v (e + 8)) + size_of * i

  abbrev pub value_at : ℕ → ℕ
  value_at i = word_at (place_of i)

  -- value i, where its bytes are there
  unfoldable pub value_is : ℕ → Result ℕ Refusal
  value_is i = giving (verdict (there v (place_of i) size_of)) (value_at i)
