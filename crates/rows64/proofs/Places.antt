-- Where the next sample stands: the next channel of its column, the next column, or where the sum starts anew.
use Rattle.std.proofs.Common.{◌≡◌, ℕ, ◌+◌, ◌/◌, ◌%◌, ◌<◌, ◌≤◌, sym, arith}
use native.Mathlib.Nat.{zero-mod, zero-div}
use Rattle.lists.proofs.Counters.{stay_mod, stay_div, turn_mod, turn_div}

-- the i-th sample's channel, and its column counted from where the sum starts anew
pub record Standing (ch reset i channel since : ℕ) : Type 0 where
  pub channel_is : channel ≡ i % ch
  pub since_is : since ≡ i / ch % reset

pub standing_first : (ch reset : ℕ) → Standing ch reset 0 0 0
standing_first ch reset = record { channel_is = sym (zero-mod ch); since_is = rw (zero-div, zero-mod) }

module _ (ch reset i channel since : ℕ) (channels : 0 < ch) (resets : 0 < reset) (s : Standing ch reset i channel since) where
  pub next_channel : channel + 1 < ch → Standing ch reset (i + 1) (channel + 1) since
  next_channel h =
      let t : i % ch + 1 < ch = omega (arith, s.channel_is) in
      record { channel_is = omega (arith, s.channel_is, stay_mod i ch channels t); since_is = rw (stay_div i ch channels t) s.since_is }

  module _ (h : ch ≤ channel + 1) where
    turns : ch ≤ i % ch + 1
    turns = omega (arith, s.channel_is)

    pub next_column : since + 1 < reset → Standing ch reset (i + 1) 0 (since + 1)
    next_column k =
        let t : i / ch % reset + 1 < reset = omega (arith, s.since_is) in
        record {
          channel_is = sym (turn_mod i ch channels turns);
          since_is = rw (turn_div i ch channels turns) (omega (arith, s.since_is, stay_mod (i / ch) reset resets t));
        }

    pub next_sum : reset ≤ since + 1 → Standing ch reset (i + 1) 0 0
    next_sum k =
        let t : reset ≤ i / ch % reset + 1 = omega (arith, s.since_is) in
        record {
          channel_is = sym (turn_mod i ch channels turns);
          since_is = rw (turn_div i ch channels turns) (sym (turn_mod (i / ch) reset resets t));
        }
