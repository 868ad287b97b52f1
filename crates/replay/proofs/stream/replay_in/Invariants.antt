-- A turn that goes on takes some bytes, of which there are no more than can be counted.
use Rattle.std.proofs.Common.{length, ◌-◌, ◌≡◌, ◌≤◌}
use Rattle.replay.proofs.stream.replay_in.Given as goal

abbrev pub invariant-loop-bytes : goal.invariant-loop-bytes
invariant-loop-bytes g l =
    (l.kept ≤ length l.initial.window) × (length l.window ≡ length l.initial.window) ×
    (length l.file ≡ length l.initial.file) × (length l.map ≡ length l.initial.map)

abbrev pub decreases-loop-bytes : goal.decreases-loop-bytes
decreases-loop-bytes g l = 18446744073709551615 - l.bytes
