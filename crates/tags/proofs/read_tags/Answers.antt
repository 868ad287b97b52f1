use Rattle.tags.proofs.Entries.{tagging_none, entry_there}
use Rattle.tags.proofs.read_tags.Goals as goal

pub loop-i-init : goal.loop-i-init
loop-i-init c = tagging_none _ _ _

pub enter-requires : goal.enter-requires
enter-requires c = entry_there _ _ _ _ c.requires c.loop-i-test.true
