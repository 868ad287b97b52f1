-- Words that no inspection gives are refused; those that one gives are a handle, whose picture is shown.
use borrow.Author.Rules.{rules}
use borrow.Author.Tests.{not-true, not-false}
use Rattle.chelmesut.proofs.Faces.{none_given, showable, words_differ, not_shown, shown_too}
use Rattle.chelmesut.proofs.chelmesut_decode.Goals as goal

pub returns-in_default : goal.returns-in_default
returns-in_default c = none_given _ _ _ _ _ _ _ c.limits_of-limits.ensures c.in_default.ensures c.word_of.ensures

pub returns-then-not-same_words : goal.returns-then-not-same_words
returns-then-not-same_words c =
    words_differ _ _ _ _ _ _ _ c.limits_of-limits.ensures c.in-Ok.ensures c.words_of.ensures c.same_words.ensures
    (search (not-true, rules)) c.word_of-then-not-same_words.ensures

pub show_inspected-requires : goal.show_inspected-requires
show_inspected-requires c =
    showable _ _ _ c.args.handle.now c.args.budget.now c.args.output.now c.args.scratch.now c.limits_of-limits.ensures c.in-Ok.ensures

pub returns-in-Ok-show_inspected : goal.returns-in-Ok-show_inspected
returns-in-Ok-show_inspected c =
    shown_too _ _ _ _ _ _ _ c.limits_of-limits.ensures c.in-Ok.ensures c.words_of.ensures c.same_words.ensures (search (not-false, rules)) _ _
    c.in-Ok-show_inspected.ensures.answer c.in-Ok-show_inspected.ensures.picture c.in-Ok-show_inspected.ensures.cleared

pub returns-in-Err : goal.returns-in-Err
returns-in-Err c =
    not_shown _ _ _ _ _ _ _ c.limits_of-limits.ensures c.in-Ok.ensures c.words_of.ensures c.same_words.ensures (search (not-false, rules)) _ _
    c.in-Err.ensures.answer c.in-Err.ensures.picture c.in-Err.ensures.cleared c.word_of-in-Err.ensures
