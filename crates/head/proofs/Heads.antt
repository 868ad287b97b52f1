-- Bounds of the heads' numbers, and what the channels tell: the bytes of a pixel, and which head it is.
use Prim.Native.Nat.{◌*◌, ◌<◌, ◌≤◌}
use mathlib.Core.Path.{◌≡◌, refl}
use mathlib.Core.Bool.{true, false}
use native.Mathlib.Omega.{arith}
use Rattle.head.specs.Heads.{Head, planes_of, bytes_of, channels_of}

pub planes_most : (h : Head) → planes_of h ≤ 4
planes_most false = omega arith
planes_most true = omega arith

pub bytes_most : (h : Head) → bytes_of h ≤ 6
bytes_most false = omega arith
bytes_most true = omega arith

pub bytes_some : (h : Head) → 0 < bytes_of h
bytes_some false = omega arith
bytes_some true = omega arith

-- a row's planes have no more bytes than its pixels
pub planes_within : (h : Head) → planes_of h ≤ bytes_of h
planes_within false = omega arith
planes_within true = omega arith

-- each sample has two bytes
pub bytes_are : (h : Head) → bytes_of h ≡ 2 * channels_of h
bytes_are false = refl
bytes_are true = refl

pub same_channels : (g h : Head) → channels_of g ≡ channels_of h → g ≡ h
same_channels false false e = refl
same_channels true true e = refl
same_channels false true e = absurd (omega arith)
same_channels true false e = absurd (omega arith)
