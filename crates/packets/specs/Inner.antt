-- What only the code's own functions ask for and leave: what a control says, and packets known to be accepted.
use Rattle.std.specs.Prelude.{ℕ, ◌≤◌, ◌≡◌, List, get_or}
use Rattle.checks.specs.Checks.{Holds}
use Rattle.packets.specs.Packets.{len_of, payload_of, packet_checks}

-- packets that are accepted at some stride
pub record Accepted (p : List ℕ) (needed : ℕ) : Type 0 where
  pub stride : ℕ
  pub holds : Holds (packet_checks stride p 0 needed)

-- a control, and its packet's length and payload
pub record Says (byte control len payload : ℕ) : Type 0 where
  pub control_is : control ≡ byte
  pub len_is : len ≡ len_of control
  pub payload_is : payload ≡ payload_of control
  pub len_small : len ≤ 129
  pub payload_small : payload ≤ 127

-- the control at a place, and its packet's length and payload
pub record PacketIs (p : List ℕ) (at control len payload : ℕ) : Type 0 where
  pub control_is : control ≡ get_or p at 0
  pub len_is : len ≡ len_of control
  pub payload_is : payload ≡ payload_of control
  pub len_small : len ≤ 129
  pub payload_small : payload ≤ 127
