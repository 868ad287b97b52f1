-- Each partial result is at most the whole, so the whole is over where one is.
use Rattle.work_limit.proofs.Bounds.{over_in, directories_most, fee_most, walk_most, front_is}
use Rattle.work_limit.proofs.front_bound.Goals as goal

pub returns-in_err-directories : goal.returns-in_err-directories
returns-in_err-directories c = over_in _ c.from_residual.ensures c.in_err-directories.ensures (directories_most _ _)

pub returns-in_err-fee : goal.returns-in_err-fee
returns-in_err-fee c = over_in _ c.from_residual-in_err-fee.ensures c.in_err-fee.ensures (fee_most _ _)

pub returns-in_err-product : goal.returns-in_err-product
returns-in_err-product c =
    over_in _ c.from_residual-in_err-product.ensures c.in_err-product.ensures (walk_most _ _ c.in_ok-directories.ensures c.in_ok-fee.ensures)

pub returns : goal.returns
returns c = front_is _ _ c.in_ok-directories.ensures c.in_ok-fee.ensures c.in_ok-product.ensures c.sum-3.ensures
