-- The calls of the C face that read a file: what each answers, and what it leaves in what it was lent.
use Rattle.std.specs.Prelude.{ℕ, ◌≡◌, Bool, false, List, [], ◌∷◌, length, Result, Ok, Err}
use Rattle.checks.specs.Numbers.{invalid, told_number, told_left, Told}
use Rattle.checks.specs.Checks.{Check, must, run, on_pass}
use Rattle.checks.specs.Sizes.{most64}
use Rattle.seen.specs.Seen.{Seen, seen}
use Rattle.header.specs.declared.Limits.{Limits}
use Rattle.inspection.specs.Inspection.{handle_of, inspected_of}
use Rattle.handle.specs.Handle.{inspected_number, inspected_left}
use Rattle.decoding.specs.Strict.{show_checks, picture_over, cleared_over}
use Rattle.handle.specs.declared.Inspected.{Inspected}
use Rattle.checks.specs.declared.Refused.{Refused}
use Rattle.patchy.specs.Patchy as patchy
use Rattle.patchy.specs.declared.Reading.{Reading}
use Rattle.face_words.specs.Words.{words_of, same_words}

-- after an inspection the words are those of its handle; a refusal leaves them (rule 7.2)
abbrev pub words_after : Result Inspected Refused → List ℕ → List ℕ
words_after (Ok i) old = words_of i.handle
words_after (Err r) old = old

-- words are a handle's where an inspection with units for any charge gives them (rule 7.4)
abbrev pub gives_words : Result Inspected Refused → List ℕ → Bool
gives_words (Ok i) given = same_words (words_of i.handle) given
gives_words (Err r) given = false

-- the words, then the buffers and the charge of the handle that they stand for
unfoldable pub words_checks : Seen → ℕ → Limits → List ℕ → ℕ → ℕ → List Check
words_checks v page l given output scratch =
    must (gives_words (inspected_of v page l most64) given) invalid ∷ show_checks (handle_of v page) output scratch

-- what each call gives and leaves, from what it was lent
module _ (file : List ℕ) (page : ℕ) (l : Limits) where
  module _ (units : ℕ) (words : List ℕ) where
    abbrev pub inspection : Result Inspected Refused
    inspection = inspected_of (seen file []) page l units

    pub record Inspect (number left : ℕ) (words' : List ℕ) : Type 0 where
      pub number_is : number ≡ inspected_number inspection
      pub left_is : left ≡ inspected_left inspection
      pub words_are : words' ≡ words_after inspection words

  module _ (words : List ℕ) (units : ℕ) (output scratch : List ℕ) where
    abbrev pub words_decode_told : Told
    words_decode_told = run (words_checks (seen file []) page l words (length output) (length scratch)) units

    pub record Decode (number left : ℕ) (output' scratch' : List ℕ) : Type 0 where
      pub number_is : number ≡ told_number words_decode_told
      pub left_is : left ≡ told_left words_decode_told
      pub output_is : output' ≡ on_pass words_decode_told (picture_over (seen file []) (handle_of (seen file []) page) output) output
      pub scratch_is : scratch' ≡ on_pass words_decode_told (cleared_over (handle_of (seen file []) page) scratch) scratch

  module _ (map : List ℕ) (units : ℕ) (output scratch quality words : List ℕ) where
    abbrev pub face_reading : Result Reading Refused
    face_reading = patchy.reading file map page l output scratch quality units

    pub record ReadPatchy (number left : ℕ) (output' scratch' quality' words' : List ℕ) : Type 0 where
      pub number_is : number ≡ patchy.reading_number face_reading
      pub left_is : left ≡ patchy.reading_left face_reading
      pub output_is : output' ≡ patchy.output_after (seen file map) page face_reading output
      pub scratch_is : scratch' ≡ patchy.scratch_after (seen file map) page face_reading scratch
      pub quality_is : quality' ≡ patchy.quality_after (seen file map) page face_reading quality
      pub words_are : words' ≡ patchy.on_reading face_reading (patchy.reading_values face_reading) words
