-- What only the code's own functions ask for: a format that can be read, and buffers that hold its picture.
use Rattle.std.specs.Prelude.{◌≤◌}
use Rattle.seen.specs.Seen.{Seen}
use Rattle.picture.specs.Inner.{Readable}
use Rattle.picture.specs.declared.Format.{Format}
use Rattle.picture.specs.Picture.{scratch_of}
use Rattle.admission.specs.declared.Room.{Room}

pub record Held (v : Seen) (f : Format) (room : Room) : Type 0 where
  pub readable : Readable v f
  pub output_holds : f.output ≤ room.output
  pub scratch_holds : scratch_of f ≤ room.scratch
  pub quality_holds : f.segments ≤ room.quality
