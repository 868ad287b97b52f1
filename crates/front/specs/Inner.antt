-- What only the code's own functions leave: the charge with the profile, and the directories before them, by what was read so far.
use Rattle.std.specs.Prelude.{ℕ, Bool, List, ◌∷◌, ◌++◌, Result}
use Rattle.checks.specs.Checks.{Check, pay, run}
use Rattle.seen.specs.Seen.{Seen}
use Rattle.header.specs.declared.Limits.{Limits}
use Rattle.directory.specs.Directory.{entries_at, slots_at}
use Rattle.tiff.specs.Walk.{walk_checks, page_at}
use Rattle.profile.specs.Profile.{profile_checks, format_of}
use Rattle.front.specs.Front.{profile_fee, found}
use Rattle.checks.specs.declared.Refused.{Refused}
use Rattle.front.specs.declared.Found.{Found}

module _ (v : Seen) (b : Bool) where
  unfoldable pub paid_checks : List ℕ → Limits → List Check
  paid_checks slots l = pay profile_fee ∷ profile_checks v b slots l

  abbrev pub found_paid : ℕ → List ℕ → Limits → ℕ → Result Found Refused
  found_paid entries slots l left = found (run (paid_checks slots l) left) (format_of v b entries slots)

  unfoldable pub page_checks : ℕ → ℕ → Limits → List Check
  page_checks first page l = walk_checks v b l.max_tags page first ++ paid_checks (slots_at v b (page_at v b page first)) l

  abbrev pub found_page : ℕ → ℕ → Limits → ℕ → Result Found Refused
  found_page first page l left =
      let at = page_at v b page first in
      found (run (page_checks first page l) left) (format_of v b (entries_at v b at) (slots_at v b at))
