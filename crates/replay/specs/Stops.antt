-- How a part of a trace ends, by why no further message of it was taken.
use Rattle.checks.specs.Numbers.{truncated, invalid, Verdict, no_refusal}
use Rattle.replay.specs.declared.messages.Stop.{Stop}
use Rattle.replay.specs.declared.messages.Stop.TheVariants.{Over, Cut, Foreign}
use Rattle.std.specs.Prelude.{Err}

abbrev pub ending_of : Stop → Verdict
ending_of Over = no_refusal
ending_of Cut = Err truncated
ending_of (Foreign byte) = Err invalid
