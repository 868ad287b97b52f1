-- Row by row: each is turned by itself into the place of its number.
use Rattle.float64.proofs.Picture.{rows_more, rows_all}
use Rattle.float64.proofs.convert_rows.Goals as goal

pub loop-y-preserved : goal.loop-y-preserved
loop-y-preserved c = rows_more _ _ _ _ _ _ _ _ c.requires _ _ c.loop-y.invariant c.loop-y-test.true _ c.convert_row.ensures

pub returns : goal.returns
returns c = rows_all _ _ _ _ _ _ _ _ c.requires _ _ c.loop-y.invariant c.loop-y-test.false
