-- The exact products are compared with the limits; one above 2^64-1 is above both.
use native.Mathlib.Omega.{arith}
use Rattle.checks.proofs.Rules.{handed_on}
use Rattle.layout.proofs.Sizes.{segments_over, segments_many, output_over, output_many, sizes_fine}
use Rattle.layout.proofs.count_segments.Goals as goal

pub returns-in_err-segments : goal.returns-in_err-segments
returns-in_err-segments c =
    handed_on c.from_residual.ensures.1
    (segments_over _ _ _ _ _ c.pieces_of-across.ensures.0 c.pieces_of-down.ensures.0 c.product.ensures c.in_err-segments.ensures.value (omega arith))

pub returns-then-max_segments-segments : goal.returns-then-max_segments-segments
returns-then-max_segments-segments c =
    segments_many _ _ _ _ _ c.pieces_of-across.ensures.0 c.pieces_of-down.ensures.0 c.product.ensures c.in_ok-segments.ensures.value
    c.if-max_segments-segments.true

pub returns-in_err-output : goal.returns-in_err-output
returns-in_err-output c =
    handed_on c.from_residual-in_err-output.ensures.1
    (output_over _ _ _ _ _ c.pieces_of-across.ensures.0 c.pieces_of-down.ensures.0 c.product.ensures c.in_ok-segments.ensures.value
    c.if-max_segments-segments.false c.bytes_of-size.ensures c.product3.ensures c.in_err-output.ensures.value (omega arith))

pub returns-then-max_output-output : goal.returns-then-max_output-output
returns-then-max_output-output c =
    output_many _ _ _ _ _ c.pieces_of-across.ensures.0 c.pieces_of-down.ensures.0 c.product.ensures c.in_ok-segments.ensures.value
    c.if-max_segments-segments.false c.bytes_of-size.ensures c.product3.ensures c.in_ok-output.ensures.value c.if-max_output-output.true

pub returns : goal.returns
returns c =
    sizes_fine _ _ _ _ _ c.pieces_of-across.ensures.0 c.pieces_of-down.ensures.0 c.product.ensures c.in_ok-segments.ensures.value
    c.if-max_segments-segments.false c.bytes_of-size.ensures c.product3.ensures c.in_ok-output.ensures.value c.if-max_output-output.false
