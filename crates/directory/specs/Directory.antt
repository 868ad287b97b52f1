-- One directory (rule 2.7): its number of entries, the entries by slot, the next offset and the charge.
use Rattle.std.specs.Prelude.{ℕ, ◌+◌, ◌*◌, ◌≡◌, List, [], ◌∷◌, ◌++◌, Bool, Result, ltb, leb}
use Rattle.checks.specs.Numbers.{invalid, limit}
use Rattle.checks.specs.Checks.{Check, must, pay, run, giving_left}
use Rattle.checks.specs.declared.Refused.{Refused}
use Rattle.seen.specs.Seen.{Seen, there, two, four}
use Rattle.tags.specs.Tags.{tags_fine, slots_in}
use Rattle.directory.specs.declared.Directory.{Directory}

module _ (v : Seen) (big : Bool) where
  -- a directory at a place: its number of entries, their places by slot, the next offset
  abbrev pub entries_at : ℕ → ℕ
  entries_at at = two big v at

  abbrev pub slots_at : ℕ → List ℕ
  slots_at at = slots_in v big (at + 2) (entries_at at)

  abbrev pub next_at : ℕ → ℕ
  next_at at = four big v (at + 2 + 12 * entries_at at)

  -- the number of entries (rules 2.7 a to c)
  unfoldable pub count_checks : ℕ → ℕ → List Check
  count_checks maxTags at = there v at 2 ++ (must (ltb 0 (entries_at at)) invalid ∷ must (leb (entries_at at) maxTags) limit ∷ [])

  -- the entries and the next offset, the charge, the tags (rules 2.7 d to f)
  abbrev pub body_checks : ℕ → List Check
  body_checks at = there v (at + 2) (12 * entries_at at + 4)

  abbrev pub directory_fee_checks : ℕ → List Check
  directory_fee_checks at = pay (entries_at at + 1) ∷ []

  abbrev pub tag_checks : ℕ → List Check
  tag_checks at = must (tags_fine v big (at + 2) (entries_at at)) invalid ∷ []

  unfoldable pub directory_checks : ℕ → ℕ → List Check
  directory_checks maxTags at = count_checks maxTags at ++ (body_checks at ++ (directory_fee_checks at ++ tag_checks at))

  -- what a directory at a place gives, with so many units left
  abbrev pub directory_at : ℕ → ℕ → Directory
  directory_at at left = record { entries = entries_at at; slots = slots_at at; next = next_at at; left = left }

  -- what a call answers that goes down these checks: their refusal, or the directory at a place
  abbrev pub given : List Check → ℕ → ℕ → Result Directory Refused
  given cs at left = giving_left (run cs left) (directory_at at)

  abbrev pub Gives : List Check → ℕ → ℕ → Result Directory Refused → Type 0
  Gives cs at left r = r ≡ given cs at left

  abbrev pub DirectoryIs : ℕ → ℕ → ℕ → Result Directory Refused → Type 0
  DirectoryIs maxTags at left r = Gives (directory_checks maxTags at) at left r
