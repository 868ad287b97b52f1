-- What can refuse a patchy reading: its checks from the first limit to the one charge for all segments.
use Rattle.std.specs.Prelude.{ℕ, zero, suc, ◌+◌, List, [], ◌∷◌, ◌++◌, leb, length, Result}
use Rattle.checks.specs.Numbers.{limit, output_too_small}
use Rattle.checks.specs.Checks.{Check, must, pay, run}
use Rattle.checks.specs.Sizes.{most64}
use Rattle.seen.specs.Seen.{Seen, map_checks}
use Rattle.header.specs.Header.{limit_checks}
use Rattle.header.specs.declared.Limits.{Limits}
use Rattle.front.specs.Front.{found, front_checks, format_seen}
use Rattle.front.specs.declared.Found.{Found}
use Rattle.checks.specs.declared.Refused.{Refused}
use Rattle.picture.specs.declared.Format.{Format}
use Rattle.picture.specs.Picture.{scratch_of}
use Rattle.quality.specs.Quality.{segment_charge}
use Rattle.admission.specs.declared.Room.{Room}

-- the lengths of the lent buffers
abbrev pub room_in : List ℕ → List ℕ → List ℕ → Room
room_in output scratch quality = record { output = length output; scratch = length scratch; quality = length quality }

-- room for the picture, for scratch and for a quality byte a segment (rule 8.5)
unfoldable pub buffer_checks : Format → Room → List Check
buffer_checks f room =
    must (leb f.output room.output) output_too_small ∷
    must (leb (scratch_of f) room.scratch) output_too_small ∷
    must (leb f.segments room.quality) output_too_small ∷ []

module _ (v : Seen) where
  -- what n segments from k on are charged (rule 5.6)
  unfoldable pub charges_of : Format → ℕ → ℕ → ℕ
  charges_of f k zero = 0
  charges_of f k (suc n) = segment_charge v f k + charges_of f (suc k) n

  -- all of them
  abbrev pub picture_charge : Format → ℕ
  picture_charge f = charges_of f 0 f.segments

  -- the two limits (rule 2.2); the length of the map (rule 8.3); header, directories, 128 units and profile (rule 8.4); scratch within max_output; the
  -- buffers; a charge above 2^64-1; the charge (rule 8.5)
  unfoldable pub patchy_checks : ℕ → ℕ → Limits → Room → List Check
  patchy_checks map page l room =
      limit_checks v.size page l
      ++ (map_checks v.size map
      ++ (front_checks v page l
      ++ (must (leb (scratch_of (format_seen v page)) l.max_output) limit ∷
      buffer_checks (format_seen v page) room
      ++ (must (leb (picture_charge (format_seen v page)) most64) limit ∷
      pay (picture_charge (format_seen v page)) ∷ []))))

  abbrev pub admitted : ℕ → ℕ → Limits → Room → ℕ → Result Found Refused
  admitted map page l room left = found (run (patchy_checks map page l room) left) (format_seen v page)
