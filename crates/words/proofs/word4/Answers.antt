-- Four bytes that are there are those seen.
use Rattle.std.proofs.Common.{◌+◌, arith}
use Rattle.std.proofs.lemmas.Grind.{common_steps}
use Rattle.seen.specs.Seen.{four, two}
use Rattle.seen.proofs.Words.{byte_came}
use Rattle.words.proofs.word4.Goals as goal
use Rattle.words.proofs.word4.Goals.{then-big, else-big}

pub returns : goal.returns
unfolding four two
returns c =
    let f = c.args.file.now in
    let m = c.args.map.now in
    let at = c.args.at in
    let b0 = byte_came f m at 4 c.requires at (omega arith) (omega arith) in
    let b1 = byte_came f m at 4 c.requires (at + 1) (omega arith) (omega arith) in
    let b2 = byte_came f m at 4 c.requires (at + 2) (omega arith) (omega arith) in
    let b3 = byte_came f m at 4 c.requires (at + 2 + 1) (omega arith) (omega arith) in
    elim c.if-big.branch [ then-big w ↦ grind (arith, common_steps, b0, b1, b2, b3) | else-big w ↦ grind (arith, common_steps, b0, b1, b2, b3) ]
