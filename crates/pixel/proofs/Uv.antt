-- The bounds of uv.
use Prim.Native.Nat.{ℕ, ◌<◌, ◌≤◌}
use native.Mathlib.Omega.{arith}
use Rattle.pixel.specs.Luv.{uv}

pub uv_least : (x : ℕ) → 39 ≤ uv x
unfolding uv
uv_least x = omega arith

pub uv_most : (x : ℕ) → x < 256 → uv x ≤ 20420
unfolding uv
uv_most x h = omega arith
