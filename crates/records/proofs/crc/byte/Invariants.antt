use Prim.Native.Nat.{◌≤◌}
use mathlib.Core.Path.{◌≡◌}
use lib.Bits.{bit_xor}
use Rattle.records.specs.Crc.{bit_steps}
use Rattle.records.proofs.crc.byte.Given as goal

abbrev pub invariant-loop : goal.invariant-loop
invariant-loop l = (l.counter ≤ 8) × (l.c ≡ bit_steps l.counter (bit_xor l.crc l.b))
