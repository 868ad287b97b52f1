use Rattle.entries.proofs.EntryValues.{places}
use Rattle.entries.proofs.place_of.Goals as goal

pub word4-requires : goal.word4-requires
word4-requires c = search places

pub returns : goal.returns
returns c = search places
