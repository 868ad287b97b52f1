-- What the loops of the checksum have done so far: so many bits of a byte, so many bytes of a buffer.
use Prim.Native.Nat.{ℕ, ◌+◌, ◌/◌, ◌%◌, ◌≤◌}
use mathlib.Core.Path.{◌≡◌, refl, ◌∙◌, ap}
use mathlib.Core.List.{List, [], ◌∷◌}
use native.Mathlib.Numerals.{add-one}
use native.Mathlib.Nat.{le_antisymm}
use lib.Bits.{bit_xor}
use borrow.Author.Rules.{rules}
use borrow.Author.Tests.{eq-eqb, ne_eqb}
use Rattle.std.specs.List.{fold}
use Rattle.records.specs.Crc.{bit_step, bit_steps, byte_step, byte_steps, crc_of}

module _ (c : ℕ) where
  pub bit_set : c % 2 ≡ 1 → bit_xor (c / 2) 3988292384 ≡ bit_step c
  unfolding bit_step
  bit_set h = rw (eq-eqb _ _ h)

  pub bit_clear : (c % 2 ≡ 1 → ⊥) → c / 2 ≡ bit_step c
  unfolding bit_step
  bit_clear h = rw (ne_eqb _ _ h)

  pub bits_none : c ≡ bit_steps 0 c
  unfolding bit_steps
  bits_none = refl

  pub bits_more : (k : ℕ) {d e : ℕ} → e ≡ bit_step d → d ≡ bit_steps k c → e ≡ bit_steps (k + 1) c
  unfolding bit_steps
  bits_more k now so_far = rw (add-one k, ← so_far) now

pub bits_all : (c b k : ℕ) {d : ℕ} → k ≤ 8 → 8 ≤ k → d ≡ bit_steps k (bit_xor c b) → d ≡ byte_step c b
unfolding byte_step
bits_all c b k most least so_far = so_far ∙ ap (λ (n : ℕ). bit_steps n (bit_xor c b)) (le_antisymm most least)

bytes_fold : (c : ℕ) (bytes : List ℕ) → byte_steps c bytes ≡ fold byte_step c bytes
unfolding byte_steps
bytes_fold c [] = refl
bytes_fold c (b ∷ rest) = bytes_fold (byte_step c b) rest

pub crc_folds : (bytes : List ℕ) → crc_of bytes ≡ bit_xor (fold byte_step 4294967295 bytes) 4294967295
unfolding crc_of
crc_folds bytes = rw bytes_fold

pub ruleset checksum = (bit_set, bit_clear, bits_none, bits_more, bits_all, rules)
