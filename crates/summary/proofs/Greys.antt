-- Where L of a pixel lies, and how many pixels are shown.
use Prim.Native.Nat.{ℕ, suc, ◌+◌, ◌*◌, ◌/◌, ◌<◌, ◌≤◌}
use mathlib.Core.Path.{◌≡◌, refl}
use mathlib.Core.Bool.{Bool, true, false}
use native.Mathlib.Omega.{arith}
use native.Mathlib.Nat.{le-div_iff_mul-le}
use lib.Dec.{ltb}
use borrow.Author.Tests.{ltb-false}
use Rattle.lists.specs.Lists.{pick, lesser}
use Rattle.lists.proofs.Lesser.{lesser_second}
use Rattle.checks.specs.Sizes.{within, most64}
use Rattle.checks.proofs.Sizes.{fits_is, over_is}
use Rattle.summary.specs.Grey.{whole_pixels}
use Rattle.std.specs.Prelude.{Option, Some, None}
use Rattle.std.specs.Option.{unwrap_or}

-- where the bytes of L of a whole pixel are
module _ (size bytes : ℕ) where
  pub light_there : (k : ℕ) → k < whole_pixels size bytes → size * k + 2 ≤ bytes
  unfolding whole_pixels
  light_there k = by (ltb size 2) refl
    where
      by : (b : Bool) → ltb size 2 ≡ b → k < pick b 0 (bytes / size) → size * k + 2 ≤ bytes
      by true t h = absurd (omega arith)
      by false t h =
          let two : 2 ≤ size = ltb-false size 2 t in
          let all : suc k * size ≤ bytes = (le-div_iff_mul-le {k = size} {x = suc k} {y = bytes} (omega arith)).0 h in
          omega arith

-- the number of pixels: a product above 2^64-1 is above any room too
pub pixels_shown : {s : Option ℕ} (a b most : ℕ) → s ≡ within (a * b) → most ≤ most64 → lesser (unwrap_or s most) most ≡ lesser (a * b) most
pixels_shown {s = Some n} a b most e h = rw (fits_is (a * b) n e refl).is
pixels_shown {s = None} a b most e h = omega (arith, over_is (a * b) e refl, lesser_second (a * b) most, lesser_second most most)
