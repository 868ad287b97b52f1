-- The directories up to a page (rules 2.6 and 2.8).
use Rattle.std.specs.Prelude.{ℕ, zero, suc, Bool, List, ◌∷◌, ◌++◌, Result, ltb}
use Rattle.checks.specs.Numbers.{page_not_found}
use Rattle.checks.specs.Checks.{Check, must}
use Rattle.checks.specs.declared.Refused.{Refused}
use Rattle.seen.specs.Seen.{Seen}
use Rattle.directory.specs.Directory.{next_at, directory_checks, Gives}
use Rattle.directory.specs.declared.Directory.{Directory}

module _ (v : Seen) (big : Bool) where
  -- an offset of 0 is 5, then the directory's own checks, for each directory up to the page (rules 2.6 and 2.8)
  unfoldable pub walk_checks : ℕ → ℕ → ℕ → List Check
  walk_checks maxTags zero at = must (ltb 0 at) page_not_found ∷ directory_checks v big maxTags at
  walk_checks maxTags (suc p) at = must (ltb 0 at) page_not_found ∷ (directory_checks v big maxTags at ++ walk_checks maxTags p (next_at v big at))

  -- where the page's directory stands
  unfoldable pub page_at : ℕ → ℕ → ℕ
  page_at zero at = at
  page_at (suc p) at = page_at p (next_at v big at)

  abbrev pub PlaceIs : ℕ → ℕ → ℕ → Result Directory Refused → Type 0
  PlaceIs maxTags at left r = Gives v big (must (ltb 0 at) page_not_found ∷ directory_checks v big maxTags at) at left r

  abbrev pub PageIs : ℕ → ℕ → ℕ → ℕ → Result Directory Refused → Type 0
  PageIs maxTags page first left r = Gives v big (walk_checks maxTags page first) (page_at page first) left r
