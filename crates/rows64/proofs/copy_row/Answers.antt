-- Each turn writes one word.
use Rattle.rows64.proofs.Plain.{copying_more}
use Rattle.rows64.proofs.copy_row.Goals as goal

pub loop-i-preserved : goal.loop-i-preserved
loop-i-preserved c = copying_more _ _ _ _ _ _ c.loop-i.invariant c.loop-i-test.true _ _ c.load-sample.ensures c.store.ensures
