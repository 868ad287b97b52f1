-- Sample by sample in the order of the row: each is its value, or that and the sample before it, which is read back from what is written.
use Rattle.std.proofs.Common.{arith, ◌≡◌, ◌/◌, ◌∙◌, true}
use Rattle.rows64.specs.Rows64.{sample}
use Rattle.rows64.proofs.Places.{next_channel, next_column, next_sum}
use Rattle.rows64.proofs.Written.{next_anew, next_on, next_summing, summing_all}
use Rattle.rows64.proofs.sum_row.Goals.{then-since-gt0, else-since-gt0}
use Rattle.rows64.proofs.sum_row.Goals as goal

pub loop-at-preserved-then-since-reset : goal.loop-at-preserved-then-since-reset
loop-at-preserved-then-since-reset c =
    let s = c.loop-at.invariant in
    let is : c.if-since-gt0.sample ≡ sample c.args.little true c.args.ch c.args.reset c.args.raw.now (c.loop-at.at / 8) =
    elim c.if-since-gt0.branch [
      | then-since-gt0 w ↦
          next_on _ _ _ _ _ _ _ _ _ _ _ s _ c.load-sample.ensures _ _ _ (omega arith) (omega arith) w.load-sample-then-since-gt0.ensures w.sample-is
      | else-since-gt0 w ↦ w.sample-is ∙ next_anew _ _ _ _ _ _ _ _ _ _ _ s _ c.load-sample.ensures c.load-sample.type_inv (omega arith)
    ] in
    next_summing _ _ _ _ _ _ _ _ _ _ _ s c.loop-at-test.true _ _ _ _ is c.store.ensures
    (next_column _ _ _ _ _ c.requires.channels c.requires.resets s.stands c.if-channel-ch.true c.if-since-reset.true)

pub loop-at-preserved-else-since-reset : goal.loop-at-preserved-else-since-reset
loop-at-preserved-else-since-reset c =
    let s = c.loop-at.invariant in
    let is : c.if-since-gt0.sample ≡ sample c.args.little true c.args.ch c.args.reset c.args.raw.now (c.loop-at.at / 8) =
    elim c.if-since-gt0.branch [
      | then-since-gt0 w ↦
          next_on _ _ _ _ _ _ _ _ _ _ _ s _ c.load-sample.ensures _ _ _ (omega arith) (omega arith) w.load-sample-then-since-gt0.ensures w.sample-is
      | else-since-gt0 w ↦ w.sample-is ∙ next_anew _ _ _ _ _ _ _ _ _ _ _ s _ c.load-sample.ensures c.load-sample.type_inv (omega arith)
    ] in
    next_summing _ _ _ _ _ _ _ _ _ _ _ s c.loop-at-test.true _ _ _ _ is c.store.ensures
    (next_sum _ _ _ _ _ c.requires.channels c.requires.resets s.stands c.if-channel-ch.true c.if-since-reset.false)

pub loop-at-preserved : goal.loop-at-preserved
loop-at-preserved c =
    let s = c.loop-at.invariant in
    let is : c.if-since-gt0.sample ≡ sample c.args.little true c.args.ch c.args.reset c.args.raw.now (c.loop-at.at / 8) =
    elim c.if-since-gt0.branch [
      | then-since-gt0 w ↦
          next_on _ _ _ _ _ _ _ _ _ _ _ s _ c.load-sample.ensures _ _ _ (omega arith) (omega arith) w.load-sample-then-since-gt0.ensures w.sample-is
      | else-since-gt0 w ↦ w.sample-is ∙ next_anew _ _ _ _ _ _ _ _ _ _ _ s _ c.load-sample.ensures c.load-sample.type_inv (omega arith)
    ] in
    next_summing _ _ _ _ _ _ _ _ _ _ _ s c.loop-at-test.true _ _ _ _ is c.store.ensures
    (next_channel _ _ _ _ _ c.requires.channels c.requires.resets s.stands c.if-channel-ch.false)

pub returns : goal.returns
returns c = summing_all _ _ _ _ _ _ _ _ _ _ _ c.loop-at.invariant (omega arith)
