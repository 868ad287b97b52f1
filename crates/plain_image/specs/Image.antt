-- The named forms: what an image carries of an inspection, and what each call leaves of its budget and its buffers.
use Rattle.std.specs.Prelude.{ℕ, ◌≡◌, false, List, [], ◌∷◌, eqb, length, Result, Ok, Err}
use Rattle.head.specs.Heads.{colour_head}
use Rattle.checks.specs.Numbers.{number_of, invalid, told_number, told_left, Told}
use Rattle.checks.specs.Checks.{Check, must, run, on_pass}
use Rattle.seen.specs.Seen.{Seen, seen}
use Rattle.header.specs.declared.Limits.{Limits}
use Rattle.picture.specs.declared.Format.{Format}
use Rattle.inspection.specs.Inspection.{inspected_of}
use Rattle.handle.specs.Handle.{inspected_left}
use Rattle.decoding.specs.Strict.{decode_checks, picture_over, cleared_over}
use Rattle.handle.specs.declared.Handle.{Handle}
use Rattle.handle.specs.declared.Inspected.{Inspected}
use Rattle.checks.specs.declared.Refused.{Refused}
use Rattle.image_info.specs.declared.Info.{Info}

-- what stands where nothing was accepted: every number 0, and the head that channels of 3 stand for (rule 7.7)
abbrev pub no_limits : Limits
no_limits = record { max_input = 0; max_output = 0; max_dimension = 0; max_directories = 0; max_tags = 0; max_segments = 0 }

abbrev pub no_format : Format
no_format = record {
  width = 0;
  height = 0;
  block_width = 0;
  block_height = 0;
  tiled = false;
  across = 0;
  segments = 0;
  output = 0;
  big = false;
  offsets = 0;
  counts = 0;
  entries = 0;
  mono = colour_head;
}

abbrev pub no_handle : Handle
no_handle = record { format = no_format; page = 0; scratch = 0; work = 0 }

-- what an image carries: 0, the limits and the handle; after a refusal its number, and all else is 0 (rule 7.7)
abbrev pub refused : ℕ → Info
refused e = record { number = e; limits = no_limits; handle = no_handle }

abbrev pub info_of : Limits → Result Inspected Refused → Info
info_of l (Ok i) = record { number = 0; limits = l; handle = i.handle }
info_of l (Err r) = refused (number_of r.refusal)

-- an inspection with so many units at hand: what the image carries, and the units left
pub record ImageInspected (file : List ℕ) (page : ℕ) (l : Limits) (units : ℕ) (info : Info) (left : ℕ) : Type 0 where
  pub info_is : info ≡ info_of l (inspected_of (seen file []) page l units)
  pub left_is : left ≡ inspected_left (inspected_of (seen file []) page l units)

-- an image that carries a refusal is not what a successful inspection gives; the rest goes by its handle (rules 7.7 and 7.4)
unfoldable pub image_checks : Seen → Info → ℕ → ℕ → List Check
image_checks v i output scratch = must (eqb i.number 0) invalid ∷ decode_checks v i.limits i.handle output scratch

-- a decode: the answer's number, the units left, the two buffers afterwards
module _ (file : List ℕ) (i : Info) (output scratch : List ℕ) (units : ℕ) where
  abbrev pub image_decode_told : Told
  image_decode_told = run (image_checks (seen file []) i (length output) (length scratch)) units

  pub record ImageDecoded (number left : ℕ) (output' scratch' : List ℕ) : Type 0 where
    pub number_is : number ≡ told_number image_decode_told
    pub left_is : left ≡ told_left image_decode_told
    pub output_is : output' ≡ on_pass image_decode_told (picture_over (seen file []) i.handle output) output
    pub scratch_is : scratch' ≡ on_pass image_decode_told (cleared_over i.handle scratch) scratch
