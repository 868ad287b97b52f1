-- What only the code's own functions ask for and leave: a known tag, one entry against the slots so far, all entries, and entries that are there.
use Rattle.std.specs.Prelude.{ℕ, ◌≡◌, List, Bool, not, ◌&&◌, ◌||◌, Option, Some, None, set, ltb, eqb}
use Rattle.lists.specs.Lists.{pick}
use Rattle.seen.specs.Seen.{Seen, There}
use Rattle.tags.specs.Slots.{entry_in, absent}
use Rattle.tags.specs.Tags.{slot_of, tag_at, type_at, tags_fine, slots_in}

-- the slot of a tag that is known
abbrev pub slot_if_known : ℕ → Option ℕ
slot_if_known t = pick (ltb (slot_of t) 19) (Some (slot_of t)) None

module _ (v : Seen) (big : Bool) where
  -- one entry against the slots so far, as the code goes
  unfoldable pub free : ℕ → List ℕ → Bool
  free e slots = not (ltb (slot_of (tag_at v big e)) 19) || (not (eqb (type_at v big e) 0) && absent (entry_in slots (slot_of (tag_at v big e))))

  unfoldable pub entered : ℕ → List ℕ → List ℕ
  entered e slots = pick (ltb (slot_of (tag_at v big e)) 19) (set slots (slot_of (tag_at v big e)) e) slots

  -- the slots with one entry more, where it may stand
  abbrev pub entered_in : ℕ → List ℕ → Option (List ℕ)
  entered_in e slots = pick (free e slots) (Some (entered e slots)) None

  -- the slots of all entries, where each may stand
  abbrev pub tags_of : ℕ → ℕ → Option (List ℕ)
  tags_of first n = pick (tags_fine v big first n) (Some (slots_in v big first n)) None

-- an entry that is not absent is there, and so are those of all slots
pub record EntryThere (v : Seen) (e : ℕ) : Type 0 where
  pub entry : (e ≡ 0 → ⊥) → There v e 12

pub record SlotsThere (v : Seen) (slots : List ℕ) : Type 0 where
  pub at_slot : (k : ℕ) → EntryThere v (entry_in slots k)
