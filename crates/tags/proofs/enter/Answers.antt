-- Tag and type lie in the entry.
use Rattle.tags.proofs.Entries.{tag_there, type_there}
use Rattle.tags.proofs.enter.Goals as goal

pub word2-requires : goal.word2-requires
word2-requires c = tag_there _ _ c.requires

pub word2-requires-in-Some : goal.word2-requires-in-Some
word2-requires-in-Some c = type_there _ _ c.requires
