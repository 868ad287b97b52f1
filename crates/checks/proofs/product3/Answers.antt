-- A factor that is over makes the product over, since the first factor is not 0.
use Rattle.checks.proofs.Sizes.{product3_none, product3_over, product3_is}
use Rattle.checks.proofs.product3.Goals as goal

pub returns-then-a-eq0 : goal.returns-then-a-eq0
returns-then-a-eq0 c = search product3_none

pub returns-in_err-product : goal.returns-in_err-product
returns-in_err-product c = rw c.from_residual.ensures (product3_over _ _ c.if-a-eq0.false c.in_err-product.ensures)

pub returns : goal.returns
returns c = product3_is _ _ _ c.in_ok-product.ensures c.product-2.ensures
