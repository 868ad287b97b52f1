-- Each turn puts the pixels of one row where it belongs.
use mathlib.Core.Path.{refl}
use native.Mathlib.Omega.{arith}
use Rattle.luv.proofs.Scattering.{scattering_more, scattering_all}
use Rattle.luv.proofs.scatter.Goals as goal

pub loop-preserved : goal.loop-preserved
loop-preserved c =
    scattering_more _ _ _ _ _ _ _ _ c.requires _ _ _ _ _ c.loop.invariant c.loop-test.true (omega arith) _ _ refl
    c.planes_of.ensures c.bytes_of.ensures _ c.convert_row.ensures _ refl

pub returns : goal.returns
returns c = scattering_all _ _ _ _ _ _ _ _ c.requires _ _ _ _ _ c.loop.invariant c.loop-test.false
