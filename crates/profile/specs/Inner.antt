-- What only the code's own functions ask for and leave: sides above 0, two steps that one function takes, and the steps from one on.
use Rattle.std.specs.Prelude.{ℕ, ◌<◌, List, ◌++◌, Bool, Result}
use Rattle.head.specs.Heads.{channels_of}
use Rattle.checks.specs.Checks.{Check, verdict, giving}
use Rattle.seen.specs.Seen.{Seen}
use Rattle.tags.specs.Slots.{extra_samples, entry_in}
use Rattle.header.specs.declared.Limits.{Limits}
use Rattle.profile.specs.Profile.{step2, step3, step4, step5, step6, step7, step8, head_in, shape_in, offsets_in, counts_in, segments_of, format_with}
use Rattle.profile.specs.declared.Numbers.{Numbers}
use Rattle.profile.specs.declared.Shape.{Shape}
use Rattle.picture.specs.declared.Format.{Format}
use Rattle.checks.specs.declared.Refusal.{Refusal}

pub record Sided (n : Numbers) : Type 0 where
  pub some_width : 0 < n.width
  pub some_height : 0 < n.height

pub record SoundShape (s : Shape) : Type 0 where
  pub some_width : 0 < s.width
  pub some_height : 0 < s.height
  pub some_block_width : 0 < s.block_width
  pub some_block_height : 0 < s.block_height

-- steps 2 and 3, over numbers alone, and steps 5 and 6, over a shape
unfoldable pub number_checks : Numbers → ℕ → ℕ → List Check
number_checks n extra maxDimension = step2 n maxDimension ++ step3 n extra

unfoldable pub layout_checks : Shape → List ℕ → List Check
layout_checks s slots = step5 s ++ step6 s slots

-- the steps from 7, from 5 and from 2 on, by the shape or the numbers that were read
module _ (v : Seen) (big : Bool) (slots : List ℕ) where
  unfoldable pub from7 : Shape → Limits → List Check
  from7 s l =
      step7 s l.max_segments l.max_output ++
      step8 v big (offsets_in slots s.tiled) (counts_in slots s.tiled) (segments_of s)

  unfoldable pub from5 : Shape → Limits → List Check
  from5 s l = step5 s ++ (step6 s slots ++ from7 s l)

  unfoldable pub from2 : Numbers → Limits → List Check
  from2 n l =
      step2 n l.max_dimension ++
      (step3 n (entry_in slots extra_samples) ++
      (step4 v big (channels_of (head_in n)) slots ++ from5 (shape_in slots n) l))

-- and what these leave
module _ (v : Seen) (big : Bool) (entries : ℕ) (slots : List ℕ) where
  abbrev pub found_from7 : Shape → Limits → Result Format Refusal
  found_from7 s l = giving (verdict (from7 v big slots s l)) (format_with big entries slots s)

  abbrev pub found_from5 : Numbers → Limits → Result Format Refusal
  found_from5 n l = giving (verdict (from5 v big slots (shape_in slots n) l)) (format_with big entries slots (shape_in slots n))

  abbrev pub found_from2 : Numbers → Limits → Result Format Refusal
  found_from2 n l = giving (verdict (from2 v big slots n l)) (format_with big entries slots (shape_in slots n))
