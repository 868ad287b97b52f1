-- A channel's first byte is its own sum, and each later one is added to the sum a channel's distance before it, which is already written.
use Rattle.std.proofs.Common.{arith, rules}
use Rattle.fp_rows.proofs.Summing.{summing_first, summing_later, summing_all}
use Rattle.fp_rows.proofs.sum_row.Goals as goal

pub loop-i-preserved : goal.loop-i-preserved
loop-i-preserved c = summing_first _ _ _ _ _ c.loop-i.invariant c.loop-i-test.true (search rules) (omega (arith, c.type_inv.raw c.loop-i.i))

pub loop-i-2-preserved : goal.loop-i-2-preserved
loop-i-2-preserved c = summing_later _ _ _ _ _ c.loop-i-2.invariant _ (search rules) (omega arith) (omega arith) (search rules)

pub returns : goal.returns
returns c = summing_all _ _ _ _ _ c.loop-i-2.invariant (omega arith) (search rules)
