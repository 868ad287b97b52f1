-- What came of a file is the file's own: bytes that are there, and the words that they make, are those of the file seen whole.
use Prim.Native.Nat.{ℕ, zero, suc, ◌+◌, ◌<◌, ◌≤◌}
use mathlib.Core.Path.{◌≡◌, refl, sym, ◌∙◌}
use mathlib.Core.List.{List, []}
use mathlib.Core.Bool.{Bool}
use native.Mathlib.Omega.{arith}
use Rattle.lists.specs.Lists.{span}
use Rattle.seen.specs.Seen.{seen, There, two, four}
use Rattle.seen.proofs.Alike.{byte_whole}
use Rattle.seen.proofs.Words.{byte_came, there_part}

module _ (file map : List ℕ) where
  pub byte_own : (at n : ℕ) → There (seen file map) at n → (j : ℕ) → at ≤ j → j < at + n → (seen file map).byte j ≡ (seen file []).byte j
  byte_own at n t j a b = byte_came file map at n t j a b ∙ sym (byte_whole file j)

  pub two_own : (big : Bool) (at : ℕ) → There (seen file map) at 2 → two big (seen file map) at ≡ two big (seen file []) at
  unfolding two
  two_own big at t = rw (byte_own at 2 t at (omega arith) (omega arith), byte_own at 2 t (at + 1) (omega arith) (omega arith))

  pub four_own : (big : Bool) (at : ℕ) → There (seen file map) at 4 → four big (seen file map) at ≡ four big (seen file []) at
  unfolding four
  four_own big at t =
      rw (
        two_own big at (there_part (seen file map) at 4 at 2 t (omega arith) (omega arith)),
        two_own big (at + 2) (there_part (seen file map) at 4 (at + 2) 2 t (omega arith) (omega arith)),
      )

  pub span_own : (n at : ℕ) → There (seen file map) at n → span (seen file map).byte at n ≡ span (seen file []).byte at n
  unfolding span
  span_own zero at t = refl
  span_own (suc n) at t =
      let more = there_part (seen file map) at (suc n) (suc at) n t (omega arith) (omega arith) in
      rw (byte_own at (suc n) t at (omega arith) (omega arith), span_own n (suc at) more)
