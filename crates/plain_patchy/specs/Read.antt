-- The named form of patchy reading: its answer, and what it leaves of its budget and its buffers.
use Rattle.std.specs.Prelude.{ℕ, ◌≡◌, List, Result, Ok, Err}
use Rattle.seen.specs.Seen.{seen}
use Rattle.header.specs.declared.Limits.{Limits}
use Rattle.patchy.specs.Patchy as patchy
use Rattle.patchy.specs.declared.Sizes.{Sizes}
use Rattle.patchy.specs.declared.Reading.{Reading}
use Rattle.checks.specs.Numbers.{number_of}
use Rattle.checks.specs.declared.Refused.{Refused}
use Rattle.plain_patchy.specs.declared.Answer.{Answer}

-- the answer: 0 and the picture's sizes; after a refusal its number, and every size is 0 (rules 8.9 and 7.7)
abbrev pub no_sizes : Sizes
no_sizes = record { width = 0; height = 0; block_width = 0; block_height = 0; segments = 0; channels = 0 }

abbrev pub answer_of : Result Reading Refused → Answer
answer_of (Ok r) = record { number = 0; sizes = r.sizes }
answer_of (Err r) = record { number = number_of r.refusal; sizes = no_sizes }

-- patchy reading: the answer, the units left, the three buffers afterwards
module _ (file map : List ℕ) (page : ℕ) (l : Limits) (output scratch quality : List ℕ) (units : ℕ) where
  abbrev pub image_reading : Result Reading Refused
  image_reading = patchy.reading file map page l output scratch quality units

  pub record PatchyRead (answer : Answer) (left : ℕ) (output' scratch' quality' : List ℕ) : Type 0 where
    pub answer_is : answer ≡ answer_of image_reading
    pub left_is : left ≡ patchy.reading_left image_reading
    pub output_is : output' ≡ patchy.output_after (seen file map) page image_reading output
    pub scratch_is : scratch' ≡ patchy.scratch_after (seen file map) page image_reading scratch
    pub quality_is : quality' ≡ patchy.quality_after (seen file map) page image_reading quality
