use Rattle.seen.specs.Seen.{seen}
use Rattle.tags.proofs.Entries.{Tagging}
use Rattle.tags.proofs.read_tags.Given as goal

abbrev pub invariant-loop-i : goal.invariant-loop-i
invariant-loop-i l = Tagging (seen l.file l.map) l.big l.first l.i l.slots
