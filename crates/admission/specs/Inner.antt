-- What only the code's own functions leave: the later parts of the reading's checks, and the answers of those.
use Rattle.std.specs.Prelude.{ℕ, List, [], ◌∷◌, ◌++◌, leb, Result}
use Rattle.checks.specs.Numbers.{limit}
use Rattle.checks.specs.Checks.{Check, must, pay, run}
use Rattle.checks.specs.Sizes.{most64}
use Rattle.seen.specs.Seen.{Seen}
use Rattle.header.specs.declared.Limits.{Limits}
use Rattle.front.specs.Front.{found, front_checks, format_seen}
use Rattle.front.specs.declared.Found.{Found}
use Rattle.checks.specs.declared.Refused.{Refused}
use Rattle.picture.specs.declared.Format.{Format}
use Rattle.picture.specs.Picture.{scratch_of}
use Rattle.admission.specs.Admission.{buffer_checks, picture_charge}
use Rattle.admission.specs.declared.Room.{Room}

-- scratch within max_output, then the buffers
unfoldable pub room_checks : Format → ℕ → Room → List Check
room_checks f maxOutput room = must (leb (scratch_of f) maxOutput) limit ∷ buffer_checks f room

module _ (v : Seen) where
  -- the one charge for all segments
  unfoldable pub charge_checks : Format → List Check
  charge_checks f = must (leb (picture_charge v f) most64) limit ∷ pay (picture_charge v f) ∷ []

  -- after the front part: what its format asks for
  unfoldable pub admit_checks : Format → ℕ → Room → List Check
  admit_checks f maxOutput room = room_checks f maxOutput room ++ charge_checks f

  abbrev pub admitted_format : Format → ℕ → Room → ℕ → Result Found Refused
  admitted_format f maxOutput room left = found (run (admit_checks f maxOutput room) left) f

  -- after the limits and the map: the front part, then this
  unfoldable pub admit_page_checks : ℕ → Limits → Room → List Check
  admit_page_checks page l room = front_checks v page l ++ admit_checks (format_seen v page) l.max_output room

  abbrev pub admitted_page : ℕ → Limits → Room → ℕ → Result Found Refused
  admitted_page page l room left = found (run (admit_page_checks page l room) left) (format_seen v page)
