-- A good segment can be shown, and what is written is its own.
use Rattle.reading.proofs.Reading.{good_showable, good_planes, good_picture}
use Rattle.reading.proofs.read_segment.Goals as goal

pub show_segment-requires : goal.show_segment-requires
show_segment-requires c =
    (good_showable _ _ _ _ c.in-Good.ensures c.requires.readable c.requires.of_picture, c.requires.planes_in, c.requires.picture_in)

pub returns-in-Good-clause-planes : goal.returns-in-Good-clause-planes
returns-in-Good-clause-planes c = good_planes _ _ _ _ c.in-Good.ensures _ _ c.show_segment.ensures.planes

pub returns-in-Good-clause-picture : goal.returns-in-Good-clause-picture
returns-in-Good-clause-picture c = good_picture _ _ _ _ c.in-Good.ensures _ _ c.show_segment.ensures.picture
