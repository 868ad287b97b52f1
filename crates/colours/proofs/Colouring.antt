-- A pixel's colour by its segment's code, and the colours of a picture one after the other.
use Prim.Native.Nat.{ℕ, ◌+◌, ◌*◌, ◌/◌, ◌%◌, ◌^◌, ◌<◌, ◌≤◌}
use mathlib.Core.Path.{◌≡◌, refl}
use mathlib.Core.Bool.{Bool, true, false}
use mathlib.Core.List.{List, ◌++◌}
use native.Mathlib.Omega.{arith}
use native.Mathlib.Nat.{mul-le-mul, div-le_self, div-add-mod'}
use mir.Syntax.{w64}
use mir.Val.{Fits}
use lib.ListN.{length, take, drop, get_or}
use lib.Seq.{length-take-le}
use lib.Dec.{eqb}
use borrow.Author.Rules.{rules}
use borrow.Author.Tests.{eq-eqb, eqb-true}
use Rattle.std.proofs.lemmas.Bool.Decides.{nat_tests}
use Rattle.lists.specs.Lists.{pick, lesser, tabulate, span, overlay}
use Rattle.lists.proofs.Lesser.{lesser_min}
use Rattle.lists.proofs.Overlay.{length_span}
use Rattle.checks.proofs.Sizes.{Known, fits_is, over_is}
use Rattle.geometry.specs.Geometry.{pieces, byte_segment}
use Rattle.placing.proofs.Filled.{tabulated}
use Rattle.summary.proofs.Greys.{light_there}
use Rattle.colours.specs.Colours.{colour_of, pixel_segment, colour_at, coloured_in}

-- the segment's number is at most the pixel's, so that it is a number of 64 bits
module _ (width across bw bh p : ℕ) where
  module _ (h : across ≤ width) where
    segment_row : p / width / bh * across ≤ p / width * width
    segment_row = mul-le-mul (div-le_self (p / width) bh) h

    pub row_fits : p < 2 ^ 64 → Fits w64 (p / width / bh * across)
    row_fits l = record { fits = omega (arith, segment_row, div-add-mod' p width) }

    pub segment_fits : p < 2 ^ 64 → Fits w64 (p / width / bh * across + p % width / bw)
    segment_fits l = record { fits = omega (arith, segment_row, div-add-mod' p width, div-le_self (p % width) bw) }

  pub segment_known : across ≡ pieces width bw → p / width / bh * across + p % width / bw ≡ pixel_segment width bw bh p
  unfolding pixel_segment
  segment_known e = rw e

pub ruleset segments = (row_fits, segment_fits, segment_known, rules)

pub ruleset counting = (fits_is, over_is, nat_tests)

pub ruleset filling = (tabulated, light_there)

-- never more than can be
pub coloured_most : (width height bw bh most : ℕ) → coloured_in width height bw bh most ≤ most
unfolding coloured_in
coloured_most width height bw bh most = grind (arith, nat_tests)

-- no pixel is coloured, and the first ones are
pub none_over : (f : ℕ → ℕ) (old : List ℕ) → old ≡ overlay (tabulate 0 f) old
unfolding overlay span
none_over f old = refl

pub front_over : (f : ℕ → ℕ) (n : ℕ) (new old : List ℕ) → n ≤ length old → new ≡ tabulate (length (take n old)) f
    → new ++ drop n old ≡ overlay (tabulate n f) old
unfolding overlay
front_over f n new old h e =
    let l : length (take n old) ≡ n = length-take-le n old h in
    rw (e, l, length_span f 0 n)

pub ruleset coloured = (none_over, front_over)

-- For readers: a pixel's segment is that of its bytes in the picture's output
pub segment_of_bytes : (size width bw bh k : ℕ) → byte_segment size width bw bh (pieces width bw) k ≡ pixel_segment width bw bh (k / size)
unfolding byte_segment pixel_segment
segment_of_bytes size width bw bh k = refl

-- A grey is shown exactly where the code is good: a pixel that did not come is never taken for a dark one.
pub good_is_grey : (code tone : ℕ) → code ≡ 1 → colour_of code tone ≤ 252
unfolding colour_of
good_is_grey code tone e = rw (eq-eqb code 1 e) (omega (arith, lesser_min tone 252))

pub grey_is_good : (code tone : ℕ) → colour_of code tone ≤ 252 → code ≡ 1
unfolding colour_of
grey_is_good code tone = by (eqb code 1) (eqb code 3) (eqb code 4) refl
  where
    by : (a b c : Bool) → eqb code 1 ≡ a → pick a (lesser tone 252) (pick b 254 (pick c 255 253)) ≤ 252 → code ≡ 1
    by true b c e h = eqb-true code 1 e
    by false true c e h = absurd (omega arith)
    by false false true e h = absurd (omega arith)
    by false false false e h = absurd (omega arith)

-- the same of a picture's pixel
pub shown_grey : (size : ℕ) (picture quality : List ℕ) (width bw bh p : ℕ)
    → colour_at size picture quality width bw bh p ≤ 252 → get_or quality (pixel_segment width bw bh p) 0 ≡ 1
unfolding colour_at
shown_grey size picture quality width bw bh p h = grey_is_good _ _ h

pub shown_good : (size : ℕ) (picture quality : List ℕ) (width bw bh p : ℕ)
    → get_or quality (pixel_segment width bw bh p) 0 ≡ 1 → colour_at size picture quality width bw bh p ≤ 252
unfolding colour_at
shown_good size picture quality width bw bh p e = good_is_grey _ _ e
