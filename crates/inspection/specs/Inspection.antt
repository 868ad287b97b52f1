-- Strict inspection: its checks from the first limit to the last packet, the handle that it gives, and when a handle is what it gives.
use Rattle.std.specs.Prelude.{ℕ, Bool, List, ◌++◌, Result}
use Rattle.checks.specs.Checks.{Check, run}
use Rattle.checks.specs.Sizes.{most64}
use Rattle.seen.specs.Seen.{Seen}
use Rattle.header.specs.Header.{limit_checks}
use Rattle.header.specs.declared.Limits.{Limits}
use Rattle.front.specs.Front.{front_checks, format_seen}
use Rattle.picture.specs.declared.Format.{Format}
use Rattle.picture.specs.Picture.{scratch_of}
use Rattle.logluv_segment.specs.Segment.{each_segment, fees_of}
use Rattle.handle.specs.Handle.{inspected, gives}
use Rattle.handle.specs.declared.Handle.{Handle}
use Rattle.handle.specs.declared.Inspected.{Inspected}
use Rattle.checks.specs.declared.Refused.{Refused}

-- the handle of a page with this format, where the fees make up this work (rule 7.2)
abbrev pub handle_with : Format → ℕ → ℕ → Handle
handle_with f page work = record { format = f; page = page; scratch = scratch_of f; work = work }

module _ (v : Seen) where
  -- all segments of a format, ascending (rule 4.2)
  unfoldable pub segments_checks : Format → ℕ → List Check
  segments_checks f maxOutput = each_segment v f maxOutput 0 f.segments

  -- the sum of their fees (rule 5.4)
  abbrev pub work_of : Format → ℕ
  work_of f = fees_of v f 0 f.segments

  abbrev pub handle_in : Format → ℕ → Handle
  handle_in f page = handle_with f page (work_of f)

  abbrev pub handle_of : ℕ → Handle
  handle_of page = handle_in (format_seen v page) page

  -- the two limits before any byte is read; header, directories, 128 units and profile; the segments (rule 7.1)
  unfoldable pub inspect_checks : ℕ → Limits → List Check
  inspect_checks page l =
      limit_checks v.size page l
      ++ (front_checks v page l
      ++ segments_checks (format_seen v page) l.max_output)

  abbrev pub inspected_of : ℕ → Limits → ℕ → Result Inspected Refused
  inspected_of page l left = inspected (run (inspect_checks page l) left) (handle_of page)

-- a handle is what an inspection of its page answers where the units suffice for any charge (rule 7.4)
unfoldable pub is_handle : Seen → Limits → Handle → Bool
is_handle v l h = gives (inspected_of v h.page l most64) h
