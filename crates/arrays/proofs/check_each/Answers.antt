-- The values so far are those wanted; the first that is refused or another number ends the list.
use native.Mathlib.Omega.{arith}
use Rattle.checks.proofs.Rules.{handed_on}
use Rattle.arrays.proofs.Samples.{value_stopped, value_other, value_wanted, all_wanted}
use Rattle.arrays.proofs.check_each.Goals as goal

pub returns-in_err-value_at : goal.returns-in_err-value_at
returns-in_err-value_at c = handed_on c.from_residual.ensures.1 (value_stopped _ _ _ _ _ _ c.loop-i.invariant (omega arith) c.in_err-value_at.ensures)

pub returns-then-branch-wanted : goal.returns-then-branch-wanted
returns-then-branch-wanted c = value_other _ _ _ _ _ _ c.loop-i.invariant (omega arith) c.in_ok-value_at.ensures c.if-branch-wanted.true

pub loop-i-preserved : goal.loop-i-preserved
loop-i-preserved c = value_wanted _ _ _ _ _ _ c.loop-i.invariant (omega arith) c.in_ok-value_at.ensures c.if-branch-wanted.false

pub returns : goal.returns
returns c = all_wanted _ _ _ _ _ _ c.loop-i.invariant (omega arith)
