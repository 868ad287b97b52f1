-- A directory (rule 2.7) without order: what is true of a file exactly if every check of it holds.
use Rattle.std.specs.Prelude.{ℕ, ◌+◌, ◌*◌, ◌<◌, ◌≤◌, ◌≡◌, Bool, get_or}
use Rattle.seen.specs.Seen.{Seen, There}
use Rattle.tags.specs.Slots.{known}
use Rattle.tags.specs.Tags.{slot_of, tag_at, type_at}
use Rattle.directory.specs.Directory.{entries_at}

-- entry i of the directory at a place
abbrev pub entry_at : ℕ → ℕ → ℕ
entry_at at i = at + 2 + 12 * i

module _ (v : Seen) (big : Bool) where
  abbrev pub tag_of : ℕ → ℕ → ℕ
  tag_of at i = tag_at v big (entry_at at i)

  -- an entry whose tag is known, as it has one of the 19 slots, has a type, and no entry before it has the same tag
  pub record DirectoryFine (maxTags at : ℕ) : Type 0 where
    pub count_there : There v at 2
    pub some_entries : 0 < entries_at v big at
    pub few_entries : entries_at v big at ≤ maxTags
    pub entries_there : There v (at + 2) (12 * entries_at v big at + 4)
    pub typed : (i : ℕ) → i < entries_at v big at → slot_of (tag_of at i) < 19 → type_at v big (entry_at at i) ≡ 0 → ⊥
    pub once : (i j : ℕ) → i < entries_at v big at → j < i → slot_of (tag_of at i) < 19 → tag_of at j ≡ tag_of at i → ⊥

  -- an entry of a directory that has the tag of slot k
  pub record HasTag (at k i : ℕ) : Type 0 where
    pub an_entry : i < entries_at v big at
    pub its_tag : tag_of at i ≡ get_or known k 0
