-- A segment of a LogLuv picture: its plan, its fee and its packets, in order.
use Rattle.std.specs.Prelude.{ℕ, zero, suc, ◌+◌, List, [], ◌∷◌, ◌++◌}
use Rattle.lists.specs.Lists.{span}
use Rattle.checks.specs.Checks.{Check, pay}
use Rattle.seen.specs.Seen.{Seen}
use Rattle.packets.specs.Packets.{packet_checks}
use Rattle.picture.specs.declared.Format.{Format}
use Rattle.picture.specs.Picture.{needed_of}
use Rattle.plan.specs.Plan.{offset_of, count_of, fee_of, plan_checks}

-- the packets of bytes that are to fill segment k: needed are pA bytes, stride the block width (rule 4.4)
abbrev pub fill_checks : Format → ℕ → List ℕ → List Check
fill_checks f k bytes = packet_checks f.block_width bytes 0 (needed_of f k)

module _ (v : Seen) (f : Format) where
  -- the stored bytes of segment k, and their packets
  unfoldable pub stored : ℕ → List ℕ
  stored k = span v.byte (offset_of v f k) (count_of v f k)

  unfoldable pub stored_checks : ℕ → List Check
  stored_checks k = fill_checks f k (stored k)

  -- the fee, then the packets (rules 4.2 f and g)
  abbrev pub fee_checks : ℕ → List Check
  fee_checks k = pay (fee_of v f k) ∷ stored_checks k

  -- one segment: the plan, the fee, the packets (rule 4.2)
  unfoldable pub segment_checks : ℕ → ℕ → List Check
  segment_checks maxOutput k = plan_checks v f maxOutput k ++ fee_checks k

  -- n segments from k on, each finished before the next begins (rule 4.2)
  unfoldable pub each_segment : ℕ → ℕ → ℕ → List Check
  each_segment maxOutput k zero = []
  each_segment maxOutput k (suc n) = segment_checks maxOutput k ++ each_segment maxOutput (suc k) n

  -- the sum of their fees (rule 5.4)
  unfoldable pub fees_of : ℕ → ℕ → ℕ
  fees_of k zero = 0
  fees_of k (suc n) = fee_of v f k + fees_of (suc k) n
