-- Each turn shows one segment more, and no place of an accepted picture is refused.
use native.Mathlib.Omega.{arith}
use Rattle.decoding.proofs.Showing.{never_refused, accepted_showable, planes_fit, picture_fits, showing_more, showing_all}
use Rattle.decoding.proofs.segments.show_segments.Goals as goal

pub returns-in_default-clause-picture : goal.returns-in_default-clause-picture
returns-in_default-clause-picture c = absurd (never_refused _ _ _ _ c.requires.0 (omega arith) c.in_default.ensures)

pub show_segment-requires : goal.show_segment-requires
show_segment-requires c = (
  accepted_showable _ _ _ _ c.requires.0 (omega arith) c.in-Ok.ensures,
  planes_fit _ _ _ _ _ _ _ _ c.loop-k.invariant c.requires.1,
  picture_fits _ _ _ _ _ _ _ _ c.loop-k.invariant c.requires.2,
)

pub loop-k-preserved : goal.loop-k-preserved
loop-k-preserved c =
    showing_more _ _ _ _ _ _ _ _ c.loop-k.invariant c.requires.0 (omega arith) c.in-Ok.ensures c.requires.1 _ _
    c.show_segment.ensures.planes c.show_segment.ensures.picture

pub returns-clause-picture : goal.returns-clause-picture
returns-clause-picture c = showing_all _ _ _ _ _ _ _ _ c.loop-k.invariant c.requires.0 (omega arith) c.requires.2
