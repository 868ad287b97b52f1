-- Those that a block takes, and then the others.
use Rattle.std.proofs.Common.{arith, refl}
use Rattle.pixel_rows.proofs.Rows.{front_colours, colours_last}
use Rattle.pixel_rows.proofs.rest_at.Goals as goal

pub returns : goal.returns
returns c =
    let front = front_colours _ _ _ _ _ c.requires.0 _ _ c.front_at-m.ensures in
    colours_last _ _ _ _ _ _ _ front _ _ _ _ _ refl refl refl (omega arith) c.singles_at.ensures
