-- The image's own number first, then what decode of its handle says.
use Rattle.plain_image.proofs.Answers.{carries_refusal, not_decoded, decoded}
use Rattle.plain_image.proofs.decode.Goals as goal

pub returns-then-info-ne0 : goal.returns-then-info-ne0
returns-then-info-ne0 c = carries_refusal _ _ _ _ _ c.if-info-ne0.true c.from.ensures

pub returns-in-Ok : goal.returns-in-Ok
returns-in-Ok c = decoded _ _ _ _ _ c.if-info-ne0.false _ _ c.in-Ok.ensures.answer c.in-Ok.ensures.picture c.in-Ok.ensures.cleared

pub returns-in-Err : goal.returns-in-Err
returns-in-Err c =
    not_decoded _ _ _ _ _ c.if-info-ne0.false _ _ c.in-Err.ensures.answer c.in-Err.ensures.picture c.in-Err.ensures.cleared
    c.from-in-Err.ensures
