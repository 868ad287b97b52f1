-- What is summed so far is the whole less what is still to come, so where a part is over the whole is.
use native.Mathlib.Omega.{arith}
use Rattle.admission.proofs.Charging.{charging_none, charge_over, sum_over, charging_more, charging_all}
use Rattle.admission.proofs.charges.charge_all.Goals as goal

pub loop-k-init : goal.loop-k-init
loop-k-init c = charging_none _ _

pub returns-in_err-charge : goal.returns-in_err-charge
returns-in_err-charge c = rw c.from_residual.ensures (charge_over _ _ _ _ c.loop-k.invariant (omega arith) c.in_err-charge.ensures)

pub returns-in_err-total : goal.returns-in_err-total
returns-in_err-total c =
    rw c.from_residual-in_err-total.ensures (sum_over _ _ _ _ c.loop-k.invariant (omega arith) c.in_ok-charge.ensures c.in_err-total.ensures)

pub loop-k-preserved : goal.loop-k-preserved
loop-k-preserved c = charging_more _ _ _ _ c.loop-k.invariant (omega arith) c.in_ok-charge.ensures c.in_ok-total.ensures

pub returns : goal.returns
returns c = charging_all _ _ _ _ c.loop-k.invariant (omega arith)
