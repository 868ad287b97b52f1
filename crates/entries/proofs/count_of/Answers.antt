use Rattle.entries.proofs.EntryValues.{entries}
use Rattle.entries.proofs.count_of.Goals as goal

pub word4-requires : goal.word4-requires
word4-requires c = search entries
