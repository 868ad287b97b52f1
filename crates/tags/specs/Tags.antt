-- The entries of a directory: a tag's slot, each known tag at most once and with a type, and the entries' places by slot.
use Rattle.std.specs.Prelude.{ℕ, zero, suc, ◌+◌, ◌*◌, List, [], ◌∷◌, map, Bool, true, not, ◌&&◌, ◌||◌, replicate, ltb, eqb}
use Rattle.lists.specs.Lists.{pick}
use Rattle.seen.specs.Seen.{Seen, two}
use Rattle.tags.specs.Slots.{known, absent}

-- the place of a number in a list, or the list's length
unfoldable pub index_in : List ℕ → ℕ → ℕ
index_in [] t = 0
index_in (x ∷ xs) t = pick (eqb x t) 0 (suc (index_in xs t))

abbrev pub slot_of : ℕ → ℕ
slot_of t = index_in known t

-- no slot taken
abbrev pub none : List ℕ
none = replicate 19 0

module _ (v : Seen) (big : Bool) where
  -- the tag and the type of an entry (rule 2.11)
  abbrev pub tag_at : ℕ → ℕ
  tag_at e = two big v e

  abbrev pub type_at : ℕ → ℕ
  type_at e = two big v (e + 2)

  -- the place of the entry with this tag among the first n, 0 where there is none
  unfoldable pub entry_of : ℕ → ℕ → ℕ → ℕ
  entry_of first tag zero = 0
  entry_of first tag (suc n) = pick (eqb (tag_at (first + 12 * n)) tag) (first + 12 * n) (entry_of first tag n)

  -- entry i may stand: its tag is not known, or it has a type and its tag comes for the first time (rules 2.7 f and 2.9)
  unfoldable pub fresh : ℕ → ℕ → Bool
  fresh first i =
      not (ltb (slot_of (tag_at (first + 12 * i))) 19)
      || (not (eqb (type_at (first + 12 * i)) 0) && absent (entry_of first (tag_at (first + 12 * i)) i))

  unfoldable pub tags_fine : ℕ → ℕ → Bool
  tags_fine first zero = true
  tags_fine first (suc n) = tags_fine first n && fresh first n

  -- the entries' places by slot
  unfoldable pub slots_in : ℕ → ℕ → List ℕ
  slots_in first n = map (λ t. entry_of first t n) known
