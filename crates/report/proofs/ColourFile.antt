-- The PNG file of a picture: the colours that were made, and the file that was made of them.
use Prim.Native.Nat.{ℕ, ◌≤◌}
use mathlib.Core.Path.{◌≡◌, refl, sym, ap, ◌∙◌}
use mathlib.Core.Bool.{Bool, true, false}
use mathlib.Core.List.{List}
use native.Mathlib.Omega.{arith}
use lib.Dec.{eqb}
use lib.ListN.{length, take}
use lib.Seq.{take_at, length-take-le}
use borrow.Author.Rules.{rules}
use borrow.Author.Tests.{eqb-true, eqb-false}
use Rattle.lists.specs.Lists.{lesser, tabulate, overlay}
use Rattle.lists.proofs.Lesser.{lesser_min}
use Rattle.lists.proofs.Overlay.{length_span, overlay_length}
use Rattle.summary.specs.Grey.{whole_pixels}
use Rattle.colours.specs.Colours.{colour_at, colours_in}
use Rattle.colours.proofs.Colouring.{coloured_most}
use Rattle.png.specs.Png.{png_of, png_size, png_over}
use Rattle.png.proofs.Sizes.{size_within, size_is_length}
use Rattle.report.specs.PngFile.{png_file_of}

module _ (size width height bw bh : ℕ) (picture quality old scratch : List ℕ) (n : ℕ)
    (en : n ≡ colours_in size width height bw bh (length picture) (length old))
    (es : scratch ≡ overlay (tabulate n (colour_at size picture quality width bw bh)) old) where
  few : n ≤ length old
  few =
      let room = lesser (whole_pixels size (length picture)) (length old) in
      omega (arith, coloured_most width height bw bh room, lesser_min (whole_pixels size (length picture)) (length old))

  long : length (tabulate n (colour_at size picture quality width bw bh)) ≡ n
  long = length_span (colour_at size picture quality width bw bh) 0 n

  pub colours_within : n ≤ length scratch
  colours_within = rw es (omega (arith, few, overlay_length (tabulate n (colour_at size picture quality width bw bh)) old (omega (arith, long, few))))

  pub colours_counted : n ≡ length (take n scratch)
  colours_counted = sym (length-take-le n scratch colours_within)

  colours_made : take n scratch ≡ tabulate n (colour_at size picture quality width bw bh)
  unfolding overlay
  colours_made = rw es (take_at (tabulate n (colour_at size picture quality width bw bh)) _ n long)

  module _ (r : ℕ) (out : List ℕ) (er : r ≡ png_size width height (length (take n scratch)) (length picture))
      (eo : out ≡ png_over width height (take n scratch) picture r) where
    length_is : r ≡ png_size width height (colours_in size width height bw bh (length picture) (length old)) (length picture)
    length_is = er ∙ ap (λ (k : ℕ). png_size width height k (length picture)) (ap length colours_made ∙ long ∙ en)

    pixels : take n scratch ≡ tabulate (colours_in size width height bw bh (length picture) (length old)) (colour_at size picture quality width bw bh)
    pixels = colours_made ∙ ap (λ (k : ℕ). tabulate k (colour_at size picture quality width bw bh)) en

    none_made : eqb r 0 ≡ true → take r out ≡ png_file_of size width height bw bh picture quality (length old)
    unfolding png_file_of
    none_made t = rw (← length_is, t) (ap (λ (k : ℕ). take k out) (eqb-true r 0 t))

    some_made : eqb r 0 ≡ false → take r out ≡ png_file_of size width height bw bh picture quality (length old)
    unfolding png_file_of png_over overlay
    some_made t =
        let new = png_of width height (take n scratch) in
        let long = size_is_length width height (take n scratch) (length picture) r er (eqb-false r 0 t) in
        let all : out ≡ overlay new picture = eo ∙ rw t in
        rw (← length_is, t, ← pixels, all) (take_at new _ r long)

    pub file_made : take r out ≡ png_file_of size width height bw bh picture quality (length old)
    file_made = by (eqb r 0) refl
      where
        by : (b : Bool) → eqb r 0 ≡ b → take r out ≡ png_file_of size width height bw bh picture quality (length old)
        by true t = none_made t
        by false t = some_made t

    pub file_within : length out ≡ length picture → r ≤ length out
    file_within l = omega (arith, size_within width height (length (take n scratch)) (length picture) r er)

pub ruleset colour_file = (colours_within, colours_counted, file_made, file_within, rules)
