-- Patchy reading: its answer, and what it leaves in the lent buffers.
use Rattle.std.specs.Prelude.{ℕ, List, [], ◌∷◌, length, replicate, Result, Ok, Err}
use Rattle.lists.specs.Lists.{overlay}
use Rattle.head.specs.Heads.{channels_of}
use Rattle.seen.specs.Seen.{Seen, seen}
use Rattle.header.specs.declared.Limits.{Limits}
use Rattle.front.specs.Front.{format_seen}
use Rattle.front.specs.declared.Found.{Found}
use Rattle.checks.specs.Numbers.{told_number}
use Rattle.checks.specs.declared.Refused.{Refused}
use Rattle.picture.specs.declared.Format.{Format}
use Rattle.picture.specs.Picture.{scratch_of}
use Rattle.marking.specs.Marks.{codes_of, shown_over}
use Rattle.admission.specs.declared.Room.{Room}
use Rattle.admission.specs.Admission.{room_in, admitted}
use Rattle.patchy.specs.declared.Sizes.{Sizes}
use Rattle.patchy.specs.declared.Reading.{Reading}

-- what a picture is answered with (rule 8.9)
abbrev pub sizes_of : Format → Sizes
sizes_of f = record {
  width = f.width;
  height = f.height;
  block_width = f.block_width;
  block_height = f.block_height;
  segments = f.segments;
  channels = channels_of f.mono;
}

-- the number of an answer, 0 where it is a picture, its values in the order of rule 8.9, and the units left
abbrev pub reading_number : Result Reading Refused → ℕ
reading_number r = told_number r

abbrev pub reading_values : Result Reading Refused → List ℕ
reading_values (Ok r) =
    let s = r.sizes in s.width ∷ s.height ∷ s.block_width ∷ s.block_height ∷ s.segments ∷ s.channels ∷ []
reading_values (Err r) = []

abbrev pub reading_left : Result Reading Refused → ℕ
reading_left (Ok r) = r.left
reading_left (Err r) = r.left

-- what stands beside an answer: one thing where it is a picture, another after a refusal
abbrev pub on_reading : {X : Type 0} → Result Reading Refused → X → X → X
on_reading (Ok r) x y = x
on_reading (Err r) x y = y

-- a picture of these sizes, with so many units left
abbrev pub reading_with : Sizes → ℕ → Reading
reading_with s u = record { sizes = s; left = u }

abbrev pub reading_from : Result Found Refused → Result Reading Refused
reading_from (Ok f) = Ok (reading_with (sizes_of f.format) f.left)
reading_from (Err r) = Err r

module _ (v : Seen) where
  -- the answer, of a map and buffers of these lengths
  abbrev pub reading_of : ℕ → ℕ → Limits → Room → ℕ → Result Reading Refused
  reading_of map page l room left = reading_from (admitted v map page l room left)

  -- the quality byte of each segment, and 0 for all that come after the last (rules 8.7 and 8.8)
  abbrev pub codes_over : Format → List ℕ → List ℕ
  codes_over f old = overlay (codes_of v f) (replicate (length old) 0)

  -- what is left in the three buffers, each as it was before the call (rules 8.7 and 8.8; after a refusal rule 1.3)
  abbrev pub output_after : ℕ → Result Reading Refused → List ℕ → List ℕ
  output_after page r old = on_reading r (shown_over v (format_seen v page) old) old

  abbrev pub scratch_after : ℕ → Result Reading Refused → List ℕ → List ℕ
  scratch_after page r old = on_reading r (overlay (replicate (scratch_of (format_seen v page)) 0) old) old

  abbrev pub quality_after : ℕ → Result Reading Refused → List ℕ → List ℕ
  quality_after page r old = on_reading r (codes_over (format_seen v page) old) (replicate (length old) 0)

-- the answer of a call: a file and its map, page, limits, the three buffers, the units
abbrev pub reading : List ℕ → List ℕ → ℕ → Limits → List ℕ → List ℕ → List ℕ → ℕ → Result Reading Refused
reading file map page l output scratch quality left = reading_of (seen file map) (length map) page l (room_in output scratch quality) left
