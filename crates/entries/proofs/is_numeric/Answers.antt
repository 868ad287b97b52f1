use Rattle.entries.proofs.EntryValues.{entries}
use Rattle.entries.proofs.is_numeric.Goals as goal

pub word2-kind-requires : goal.word2-kind-requires
word2-kind-requires c = search entries
