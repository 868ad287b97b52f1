-- The front part of every reading (rules 2.3 to 3.8): header, directories up to the page, 128 units, profile.
use Rattle.std.specs.Prelude.{ℕ, List, ◌∷◌, ◌++◌, Result, Ok, Err}
use Rattle.checks.specs.Checks.{Check, pay, run, giving_left}
use Rattle.seen.specs.Seen.{Seen}
use Rattle.header.specs.Header.{header_checks, big_endian, first_of}
use Rattle.header.specs.declared.Limits.{Limits}
use Rattle.directory.specs.Directory.{entries_at, slots_at}
use Rattle.tiff.specs.Walk.{walk_checks, page_at}
use Rattle.profile.specs.Profile.{profile_checks, format_of}
use Rattle.picture.specs.declared.Format.{Format}
use Rattle.front.specs.declared.Found.{Found}
use Rattle.checks.specs.declared.Refused.{Refused}
use Rattle.checks.specs.Numbers.{Told}

-- what is charged after the directories (rule 5.2)
abbrev pub profile_fee : ℕ
profile_fee = 128

module _ (v : Seen) (page : ℕ) where
  -- where the page's directory stands, and its slots
  abbrev pub page_seen : ℕ
  page_seen = page_at v (big_endian v) page (first_of v)

  abbrev pub slots_seen : List ℕ
  slots_seen = slots_at v (big_endian v) page_seen

  unfoldable pub front_checks : Limits → List Check
  front_checks l =
      header_checks v ++
      (walk_checks v (big_endian v) l.max_tags page (first_of v) ++
      (pay profile_fee ∷
      profile_checks v (big_endian v) slots_seen l))

  abbrev pub format_seen : Format
  format_seen = format_of v (big_endian v) (entries_at v (big_endian v) page_seen) slots_seen

-- the answer: the first refusal, or the format, each with the units left
abbrev pub found : Told → Format → Result Found Refused
found t f = giving_left t (λ u. record { format = f; left = u })

abbrev pub found_of : Seen → ℕ → Limits → ℕ → Result Found Refused
found_of v page l left = found (run (front_checks v page l) left) (format_seen v page)

-- the units that it leaves
abbrev pub found_left : Result Found Refused → ℕ
found_left (Ok f) = f.left
found_left (Err r) = r.left
