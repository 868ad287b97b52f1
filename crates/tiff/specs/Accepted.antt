-- The way to a page (rules 2.6 and 2.8) without order: what is true of a file exactly if every check of it holds, and what it charges.
use Rattle.std.specs.Prelude.{ℕ, zero, suc, ◌+◌, ◌<◌, ◌≤◌, Bool}
use Rattle.seen.specs.Seen.{Seen}
use Rattle.directory.specs.Directory.{entries_at, next_at}
use Rattle.directory.specs.Accepted.{DirectoryFine}
use Rattle.tiff.specs.Walk.{page_at}

module _ (v : Seen) (big : Bool) where
  -- directory 0 stands at the first offset, each further one where the one before says, and none of these places is 0
  pub record WalkFine (maxTags page first : ℕ) : Type 0 where
    pub has_place : (i : ℕ) → i ≤ page → 0 < page_at v big i first
    pub is_fine : (i : ℕ) → i ≤ page → DirectoryFine v big maxTags (page_at v big i first)

  -- what is charged up to a page: each directory's entries and one more (rule 5.1)
  unfoldable pub walk_fee : ℕ → ℕ → ℕ
  walk_fee zero at = entries_at v big at + 1
  walk_fee (suc p) at = entries_at v big at + 1 + walk_fee p (next_at v big at)
