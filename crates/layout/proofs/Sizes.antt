-- Step 7: the numbers of segments and of output bytes, exact, against limits of 64 bits.
use Prim.Native.Nat.{ℕ, ◌+◌, ◌*◌, ◌<◌, ◌≤◌}
use mathlib.Core.Path.{◌≡◌, ◌∙◌}
use mathlib.Core.Bool.{true}
use native.Mathlib.Omega.{arith}
use lib.Dec.{leb}
use borrow.Author.Tests.{le-leb, lt-leb}
use Rattle.head.specs.Heads.{bytes_of}
use Rattle.checks.specs.Numbers.{limit}
use Rattle.checks.specs.Checks.{verdict}
use Rattle.checks.specs.Sizes.{most64, within}
use Rattle.checks.specs.declared.Refusal.{Refusal}
use Rattle.checks.proofs.Sizes.{fits_is, over_is, or_none, or_some}
use Rattle.geometry.specs.Geometry.{pieces}
use Rattle.profile.specs.Profile.{across_of, segments_of, output_of, step7}
use Rattle.profile.specs.Inner.{SoundShape}
use Rattle.layout.specs.Inner.{counted_of}
use Rattle.profile.specs.declared.Shape.{Shape}
use Rattle.std.specs.Prelude.{Option, Ok, Err}
use Rattle.std.specs.Option.{ok_or}

-- a sound shape's sides
module _ (s : Shape) (ok : SoundShape s) where
  pub across_sides : (0 < s.width) × (0 < s.block_width)
  across_sides = (ok.some_width, ok.some_block_width)

  pub down_sides : (0 < s.height) × (0 < s.block_height)
  down_sides = (ok.some_height, ok.some_block_height)

-- the numbers of segments and of output bytes, as the products answer
module _ (s : Shape) (ms mo across down : ℕ) (ea : across ≡ across_of s) (ed : down ≡ pieces s.height s.block_height)
    {r : Option ℕ} (er : r ≡ within (across * down)) where
  product_is : across * down ≡ segments_of s
  product_is = rw (ea, ed)

  many_segments : ms < segments_of s → Err limit ≡ counted_of s ms mo
  unfolding counted_of step7 verdict
  many_segments h = rw (lt-leb (segments_of s) ms h)

  pub segments_over : {e : Refusal} → Err e ≡ ok_or r limit → ms < most64 + 1 → Err e ≡ counted_of s ms mo
  segments_over {e} z b = let o = or_none r limit z in rw o.1 (many_segments (omega (arith, over_is (across * down) er o.0, product_is)))

  module _ {segments : ℕ} (q : Ok segments ≡ ok_or r limit) where
    segments_are : segments ≡ segments_of s
    segments_are = (fits_is (across * down) segments er (or_some r limit q)).is ∙ product_is

    pub segments_many : ms < segments → Err limit ≡ counted_of s ms mo
    segments_many h = many_segments (omega (arith, segments_are))

    module _ (few_enough : segments ≤ ms) {b : ℕ} (eb : b ≡ bytes_of s.mono) {t : Option ℕ} (told : t ≡ within (b * (s.width * s.height))) where
      et : t ≡ within (output_of s)
      et = rw eb at told

      few : leb (segments_of s) ms ≡ true
      few = le-leb (segments_of s) ms (omega (arith, segments_are))

      much_output : mo < output_of s → Err limit ≡ counted_of s ms mo
      unfolding counted_of step7 verdict
      much_output h = rw (few, lt-leb (output_of s) mo h)

      pub output_over : {e : Refusal} → Err e ≡ ok_or t limit → mo < most64 + 1 → Err e ≡ counted_of s ms mo
      output_over z b = let o = or_none t limit z in rw o.1 (much_output (omega (arith, over_is (output_of s) et o.0)))

      module _ {output : ℕ} (z : Ok output ≡ ok_or t limit) where
        output_is : output ≡ output_of s
        output_is = (fits_is (output_of s) output et (or_some t limit z)).is

        pub output_many : mo < output → Err limit ≡ counted_of s ms mo
        output_many h = much_output (omega (arith, output_is))

        pub sizes_fine : output ≤ mo → Ok (record { across = across; segments = segments; output = output }) ≡ counted_of s ms mo
        unfolding counted_of step7 verdict
        sizes_fine h = let l : output_of s ≤ mo = omega (arith, output_is) in rw (few, le-leb (output_of s) mo l, segments_are, output_is, ea)
