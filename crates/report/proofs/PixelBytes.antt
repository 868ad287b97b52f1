-- The bytes of a pixel, as the test tells them; and that they are those of the head whose channels these are.
use Prim.Native.Nat.{ℕ}
use mathlib.Core.Path.{◌≡◌, refl}
use mathlib.Core.Bool.{true, false}
use borrow.Author.Tests.{eq-eqb, ne_eqb}
use Rattle.head.specs.Heads.{Head, bytes_of, channels_of}
use Rattle.report.specs.Pixels.{bytes_for}

module _ (channels : ℕ) where
  pub two_bytes : channels ≡ 1 → 2 ≡ bytes_for channels
  unfolding bytes_for
  two_bytes e = rw (eq-eqb _ _ e)

  pub six_bytes : (channels ≡ 1 → ⊥) → 6 ≡ bytes_for channels
  unfolding bytes_for
  six_bytes n = rw (ne_eqb _ _ n)

-- for readers
pub channels_tell : (h : Head) → bytes_for (channels_of h) ≡ bytes_of h
unfolding bytes_for
channels_tell false = refl
channels_tell true = refl
