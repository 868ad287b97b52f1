-- What only the code's own functions leave: the later parts of the inspection's checks, and the answers of those.
use Rattle.std.specs.Prelude.{ℕ, List, ◌++◌, Result}
use Rattle.checks.specs.Checks.{Check, run}
use Rattle.seen.specs.Seen.{Seen}
use Rattle.header.specs.declared.Limits.{Limits}
use Rattle.front.specs.Front.{front_checks, format_seen}
use Rattle.picture.specs.declared.Format.{Format}
use Rattle.handle.specs.Handle.{inspected}
use Rattle.handle.specs.declared.Inspected.{Inspected}
use Rattle.checks.specs.declared.Refused.{Refused}
use Rattle.inspection.specs.Inspection.{segments_checks, handle_in, handle_of}

module _ (v : Seen) where
  -- of a format: its segments
  abbrev pub inspected_format : Format → ℕ → ℕ → ℕ → Result Inspected Refused
  inspected_format f page maxOutput left = inspected (run (segments_checks v f maxOutput) left) (handle_in v f page)

  -- after the limits: the front part, then the segments
  unfoldable pub picture_checks : ℕ → Limits → List Check
  picture_checks page l = front_checks v page l ++ segments_checks v (format_seen v page) l.max_output

  abbrev pub inspected_page : ℕ → Limits → ℕ → Result Inspected Refused
  inspected_page page l left = inspected (run (picture_checks page l) left) (handle_of v page)
