-- A handle that fails its check is refused; one that passes is that of an accepted picture, which is shown.
use Rattle.decoding.proofs.Claims.{decoding}
use Rattle.decoding.proofs.decode_seen.Goals as goal

pub returns-then-not-is_handle-clause-answer : goal.returns-then-not-is_handle-clause-answer
returns-then-not-is_handle-clause-answer c = search decoding

pub show_handle-requires : goal.show_handle-requires
show_handle-requires c = search decoding

pub returns-clause-answer : goal.returns-clause-answer
returns-clause-answer c = search decoding
