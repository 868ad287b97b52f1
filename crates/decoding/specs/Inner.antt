-- What only the code's own functions ask for: a picture whose format can be read and whose segments were accepted, and a handle of such a one.
use Rattle.std.specs.Prelude.{ℕ, ◌<◌, ◌≤◌, ◌≡◌}
use Rattle.checks.specs.Checks.{Holds}
use Rattle.seen.specs.Seen.{Seen}
use Rattle.picture.specs.Inner.{Readable}
use Rattle.picture.specs.declared.Format.{Format}
use Rattle.picture.specs.Picture.{scratch_of}
use Rattle.plan.specs.Plan.{place_checks}
use Rattle.logluv_segment.specs.Segment.{stored_checks}
use Rattle.handle.specs.declared.Handle.{Handle}

pub record SegmentAccepted (v : Seen) (f : Format) (k : ℕ) : Type 0 where
  pub place : Holds (place_checks v f k)
  pub packets : Holds (stored_checks v f k)

pub record PictureAccepted (v : Seen) (f : Format) : Type 0 where
  pub readable : Readable v f
  pub segment : (k : ℕ) → k < f.segments → SegmentAccepted v f k

-- what an inspection gives can be shown
pub record HandleShowable (v : Seen) (h : Handle) : Type 0 where
  pub picture : PictureAccepted v h.format
  pub scratch_is : h.scratch ≡ scratch_of h.format

-- the needed part of scratch is that of the format, and buffers of these lengths hold it and the picture
abbrev pub RoomFor : Format → ℕ → ℕ → ℕ → Type 0
RoomFor f needed output scratch = (needed ≡ scratch_of f) × (needed ≤ scratch) × (f.output ≤ output)
