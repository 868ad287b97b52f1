-- Each return is one of the tests, by the sizes of planes and pixels; the rows of a refused or of an empty picture touch nothing.
use native.Mathlib.Omega.{arith}
use Rattle.checks.proofs.Rules.{handed_on}
use Rattle.luv.proofs.Pixels.{size_known, size_over, no_number, none_fine, none_written, pixels_fit, planes_fit, planes_short, out_short, both_fine, row_fits_word, both_sized}
use Rattle.luv.proofs.Scattering.{rows_put}
use Rattle.luv.proofs.convert.Goals as goal

pub returns-in_err-size-clause-answer : goal.returns-in_err-size-clause-answer
returns-in_err-size-clause-answer c =
    handed_on c.from_residual.ensures.1
    (no_number c.in_err-size.ensures.ok_part c.in_err-size.ensures.value
    (size_over c.args.mono _ _ _ c.bytes_of.ensures c.product3.ensures _ _ c.in_err-size.ensures.ok_part))

pub returns-then-size-eq0-clause-answer : goal.returns-then-size-eq0-clause-answer
returns-then-size-eq0-clause-answer c =
    let k = size_known c.args.mono _ _ _ c.bytes_of.ensures c.product3.ensures _ c.in_ok-size.ensures.ok_part in
    none_fine _ _ _ _ k c.if-size-eq0.true _ _

pub returns-then-size-eq0-clause-buffer : goal.returns-then-size-eq0-clause-buffer
returns-then-size-eq0-clause-buffer c =
    let k = size_known c.args.mono _ _ _ c.bytes_of.ensures c.product3.ensures _ c.in_ok-size.ensures.ok_part in
    none_written _ _ _ _ k c.if-size-eq0.true _ _

pub overflow_mul-rows : goal.overflow_mul-rows
overflow_mul-rows c =
    let k = size_known c.args.mono _ _ _ c.bytes_of.ensures c.product3.ensures _ c.in_ok-size.ensures.ok_part in
    pixels_fit _ _ _ _ k

pub overflow_mul-planes_of : goal.overflow_mul-planes_of
overflow_mul-planes_of c =
    let k = size_known c.args.mono _ _ _ c.bytes_of.ensures c.product3.ensures _ c.in_ok-size.ensures.ok_part in
    planes_fit _ _ _ _ k _ c.planes_of.ensures

pub returns-then-planes-planes_of-clause-answer : goal.returns-then-planes-planes_of-clause-answer
returns-then-planes-planes_of-clause-answer c =
    let k = size_known c.args.mono _ _ _ c.bytes_of.ensures c.product3.ensures _ c.in_ok-size.ensures.ok_part in
    planes_short _ _ _ _ k _ c.planes_of.ensures _ _ c.if-planes-planes_of.true

pub returns-then-out-size-clause-answer : goal.returns-then-out-size-clause-answer
returns-then-out-size-clause-answer c =
    let k = size_known c.args.mono _ _ _ c.bytes_of.ensures c.product3.ensures _ c.in_ok-size.ensures.ok_part in
    out_short _ _ _ _ k _ c.planes_of.ensures _ _ c.if-planes-planes_of.false c.if-out-size.true

pub overflow_mul-bytes_of : goal.overflow_mul-bytes_of
overflow_mul-bytes_of c =
    let k = size_known c.args.mono _ _ _ c.bytes_of.ensures c.product3.ensures _ c.in_ok-size.ensures.ok_part in
    row_fits_word _ _ _ _ k _ c.planes_of.ensures _ _ c.if-planes-planes_of.false c.if-out-size.false c.if-size-eq0.false _ c.bytes_of-2.ensures

pub scatter-requires : goal.scatter-requires
scatter-requires c =
    let k = size_known c.args.mono _ _ _ c.bytes_of.ensures c.product3.ensures _ c.in_ok-size.ensures.ok_part in
    both_sized _ _ _ _ k _ c.planes_of.ensures _ _ c.if-planes-planes_of.false c.if-out-size.false c.if-size-eq0.false _ c.bytes_of-2.ensures

pub returns-clause-answer : goal.returns-clause-answer
returns-clause-answer c =
    let k = size_known c.args.mono _ _ _ c.bytes_of.ensures c.product3.ensures _ c.in_ok-size.ensures.ok_part in
    both_fine _ _ _ _ k _ c.planes_of.ensures _ _ c.if-planes-planes_of.false c.if-out-size.false

pub returns-clause-buffer : goal.returns-clause-buffer
returns-clause-buffer c =
    let k = size_known c.args.mono _ _ _ c.bytes_of.ensures c.product3.ensures _ c.in_ok-size.ensures.ok_part in
    let s = both_sized _ _ _ _ k _ c.planes_of.ensures _ _ c.if-planes-planes_of.false c.if-out-size.false c.if-size-eq0.false _ c.bytes_of-2.ensures in
    rows_put _ _ _ _ _ s.planes_in (omega (arith, k.is)) c.bytes_of-2.ensures c.scatter.ensures
