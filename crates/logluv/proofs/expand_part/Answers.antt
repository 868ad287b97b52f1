-- What is written and what is ahead are together what the packets stand for.
use native.Mathlib.Omega.{arith}
use lib.Seq.{length-take-le}
use Rattle.logluv.proofs.Steps.{giving_none, giving_front}
use Rattle.logluv.proofs.expand_part.Goals as goal

pub loop-place-init : goal.loop-place-init
loop-place-init c =
    giving_none _ _ _ _ c.requires.0 (omega (arith, length-take-le c.args.needed c.args.out.now c.requires.1)) c.new-cursor.ensures

pub returns : goal.returns
returns c = giving_front _ _ _ _ _ _ c.requires.1 c.loop-place.invariant c.loop-place-test.false
