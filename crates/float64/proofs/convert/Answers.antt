-- The size is the one of the checks, whether it is a number of 64 bits or not.
use Prim.Native.Nat.{◌<◌, ◌≤◌}
use native.Mathlib.Omega.{arith}
use lib.ListN.{length}
use Rattle.checks.proofs.Rules.{handed_on, verdicts}
use Rattle.float64.specs.Float64.{size64}
use Rattle.float64.proofs.Accepted.{size_known, size_over, no_number, one_size, columns_fit}
use Rattle.float64.proofs.Picture.{plain_picture}
use Rattle.float64.proofs.convert.Goals as goal

pub returns-in_err-size-clause-answer : goal.returns-in_err-size-clause-answer
returns-in_err-size-clause-answer c =
    let large = size_over c.args.w c.args.h c.args.ch c.product3.ensures c.in_err-size.ensures.ok_part in
    handed_on c.from_residual.ensures.1 (no_number c.in_err-size.ensures.ok_part c.in_err-size.ensures.value (search verdicts))

pub returns-then-raw-size-clause-answer : goal.returns-then-raw-size-clause-answer
returns-then-raw-size-clause-answer c =
    let k = size_known c.args.w c.args.h c.args.ch c.product3.ensures _ c.in_ok-size.ensures.ok_part in
    let small = k.small in
    let short : length c.args.raw.now < size64 c.args.w c.args.h c.args.ch = omega (arith, k.is) in
    search verdicts

pub returns-then-out-size-clause-answer : goal.returns-then-out-size-clause-answer
returns-then-out-size-clause-answer c =
    let k = size_known c.args.w c.args.h c.args.ch c.product3.ensures _ c.in_ok-size.ensures.ok_part in
    let small = k.small in
    let input : size64 c.args.w c.args.h c.args.ch ≤ length c.args.raw.now = omega (arith, k.is) in
    let short : length c.args.out.now < size64 c.args.w c.args.h c.args.ch = omega (arith, k.is) in
    search verdicts

pub convert_rows-requires : goal.convert_rows-requires
convert_rows-requires c =
    let k = size_known c.args.w c.args.h c.args.ch c.product3.ensures _ c.in_ok-size.ensures.ok_part in
    record {
      some = omega arith;
      channels = omega arith;
      few = c.if-ch-gt4.false;
      resets = omega arith;
      input = omega (arith, k.is);
      room = omega (arith, k.is);
    }

pub overflow_mul-w : goal.overflow_mul-w
overflow_mul-w c =
    let k = size_known c.args.w c.args.h c.args.ch c.product3.ensures _ c.in_ok-size.ensures.ok_part in
    columns_fit c.args.w c.args.h c.args.ch (omega arith) (omega (arith, k.small))

pub convert_rows-requires-else-predict : goal.convert_rows-requires-else-predict
convert_rows-requires-else-predict c =
    let k = size_known c.args.w c.args.h c.args.ch c.product3.ensures _ c.in_ok-size.ensures.ok_part in
    let one = one_size c.args.w c.args.h c.args.ch in
    record {
      some = omega arith;
      channels = omega arith;
      few = c.if-ch-gt4.false;
      resets = omega arith;
      input = omega (arith, k.is, one);
      room = omega (arith, k.is, one);
    }

pub returns-then-predict-clause-answer : goal.returns-then-predict-clause-answer
returns-then-predict-clause-answer c =
    let k = size_known c.args.w c.args.h c.args.ch c.product3.ensures _ c.in_ok-size.ensures.ok_part in
    let small = k.small in
    let input : size64 c.args.w c.args.h c.args.ch ≤ length c.args.raw.now = omega (arith, k.is) in
    let room : size64 c.args.w c.args.h c.args.ch ≤ length c.args.out.now = omega (arith, k.is) in
    search verdicts

pub returns-else-predict-clause-answer : goal.returns-else-predict-clause-answer
returns-else-predict-clause-answer c =
    let k = size_known c.args.w c.args.h c.args.ch c.product3.ensures _ c.in_ok-size.ensures.ok_part in
    let small = k.small in
    let input : size64 c.args.w c.args.h c.args.ch ≤ length c.args.raw.now = omega (arith, k.is) in
    let room : size64 c.args.w c.args.h c.args.ch ≤ length c.args.out.now = omega (arith, k.is) in
    search verdicts

pub returns-else-predict-clause-buffer : goal.returns-else-predict-clause-buffer
returns-else-predict-clause-buffer c = plain_picture _ _ _ _ _ _ _ _ _ c.if-predict.false c.convert_rows-else-predict.ensures
