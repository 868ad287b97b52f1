use Rattle.packets.proofs.Laws.{short, unfit, scanned_more, filled, wanting}
use Rattle.packets.proofs.check_part.Goals as goal

pub returns-then-after-payload : goal.returns-then-after-payload
returns-then-after-payload c = short c.loop-control.invariant c.in-Some.ensures.cases.0 c.packet_of-len.ensures c.if-after-payload.true

pub returns-then-left-len : goal.returns-then-left-len
returns-then-left-len c =
    unfit c.loop-control.invariant c.in-Some.ensures.cases.0 c.packet_of-len.ensures c.if-after-payload.false c.then-left-len.either

pub loop-control-preserved : goal.loop-control-preserved
loop-control-preserved c =
    scanned_more c.loop-control.invariant c.in-Some.ensures.cases.0 c.packet_of-len.ensures c.if-after-payload.false c.if-left-len.false
    c.if-room-len.false _ c.next_room-room.ensures

pub returns-then-left-eq0 : goal.returns-then-left-eq0
returns-then-left-eq0 c = filled c.loop-control.invariant c.in_default.ensures.cases c.if-left-eq0.true

pub returns-else-left-eq0 : goal.returns-else-left-eq0
returns-else-left-eq0 c = wanting c.loop-control.invariant c.in_default.ensures.cases c.if-left-eq0.false
