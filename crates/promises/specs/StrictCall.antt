-- A call of strict reading, and what is left of it: inspection and decode in one call, and decode of a handle.
use Rattle.std.specs.Prelude.{ℕ, List, [], length, Result}
use Rattle.seen.specs.Seen.{Seen, seen}
use Rattle.header.specs.declared.Limits.{Limits}
use Rattle.inspection.specs.Inspection.{inspected_of}
use Rattle.handle.specs.Handle.{inspected_left}
use Rattle.decoding.specs.Strict.{decoded_of, both_of, output_decoded, scratch_decoded, output_read, scratch_read}
use Rattle.handle.specs.declared.Handle.{Handle}
use Rattle.handle.specs.declared.Inspected.{Inspected}
use Rattle.checks.specs.Numbers.{Told}
use Rattle.checks.specs.declared.Refused.{Refused}

-- the file, what is asked for, the units at hand, and the lent buffers as they stood before
pub record StrictCall : Type 0 where
  pub file : List ℕ
  pub page : ℕ
  pub limits : Limits
  pub units : ℕ
  pub output : List ℕ
  pub scratch : List ℕ

module _ (c : StrictCall) where
  -- strict reading sees the file whole
  abbrev pub whole_view : Seen
  whole_view = seen c.file []

  -- what `logluv_tiff::inspect` promises of it
  abbrev pub inspect_answer : Result Inspected Refused
  inspect_answer = inspected_of whole_view c.page c.limits c.units

  -- what `logluv_tiff::read` promises of it: its answer, the units left, and the two buffers afterwards
  abbrev pub answer : Result Inspected Refused
  answer = both_of whole_view c.page c.limits (length c.output) (length c.scratch) c.units

  abbrev pub left : ℕ
  left = inspected_left answer

  abbrev pub output_then : List ℕ
  output_then = output_read whole_view c.page answer c.output

  abbrev pub scratch_then : List ℕ
  scratch_then = scratch_read whole_view c.page answer c.scratch

  -- what `logluv_tiff::decode` promises of it and a handle, which names its own page
  module _ (h : Handle) where
    abbrev pub decode_answer : Told
    decode_answer = decoded_of whole_view c.limits h c.output c.scratch c.units

    abbrev pub decode_output : List ℕ
    decode_output = output_decoded whole_view h decode_answer c.output

    abbrev pub decode_scratch : List ℕ
    decode_scratch = scratch_decoded h decode_answer c.scratch
