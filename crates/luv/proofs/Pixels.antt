-- The rows of pixels one after the other, and the sizes of planes and pixels, for either head.
use Prim.Native.Nat.{ℕ, ◌*◌, ◌<◌, ◌≤◌}
use mathlib.Core.Path.{◌≡◌, refl, ap, ◌∙◌}
use mathlib.Core.List.{List, [], ◌∷◌}
use native.Mathlib.Omega.{arith}
use native.Mathlib.Nat.{le-mul_of_pos_right, mul-le-mul_right, zero-mul}
use mir.Syntax.{w64}
use mir.Val as val
use lib.ListN.{length}
use Rattle.lists.specs.Lists.{overlay}
use Rattle.lists.proofs.Rows.{EvenRow, per_row_length, row_fits}
use Rattle.head.specs.Heads.{Head, planes_of, bytes_of}
use Rattle.head.proofs.Heads.{bytes_some, planes_within}
use Rattle.checks.specs.Numbers.{truncated, limit, output_too_small, no_refusal, Verdict}
use Rattle.checks.specs.Checks.{verdict}
use Rattle.checks.proofs.Rules.{verdicts}
use Rattle.checks.proofs.Sizes.{Known, fits_is, over_is}
use Rattle.checks.specs.Sizes.{within, most64}
use Rattle.pixel.specs.Luv.{row_pixels, pixels}
use Rattle.pixel.proofs.Rows.{row_length}
use Rattle.luv.specs.Convert.{convert_checks}
use Rattle.luv.specs.Inner.{Scatterable}
use Rattle.std.specs.Prelude.{Option, Err, Some, None}
use Rattle.std.specs.Option.{ok_or}
use Rattle.checks.specs.declared.Refusal.{Refusal}

pub rows_even : (head : Head) (w : ℕ) → EvenRow (row_pixels head w w) (planes_of head * w) (bytes_of head * w)
rows_even head w xs h = row_length head w xs w

-- the size of the pixels, as a call told it of the bytes of a pixel
module _ (head : Head) (w rows b : ℕ) (eb : b ≡ bytes_of head) {r : Option ℕ} (er : r ≡ within (rows * (b * w))) where
  pub size_known : (size : ℕ) → r ≡ Some size → Known (rows * (bytes_of head * w)) size
  size_known size q = fits_is (rows * (bytes_of head * w)) size (rw eb at er) q

  pub size_over : (planes out : ℕ) → r ≡ None → Err limit ≡ verdict (convert_checks head w rows planes out)
  size_over planes out q = let a : most64 < rows * (bytes_of head * w) = over_is (rows * (bytes_of head * w)) (rw eb at er) q in search verdicts

-- the refusal that stands for a number which is none
pub no_number : {r : Option ℕ} {e n : Refusal} {v : Verdict} → r ≡ None → Err e ≡ ok_or r n → Err n ≡ v → Err e ≡ v
no_number {r} {e} {n} z q t = let k = rw z at q in let same : e ≡ n = cc in ap Err same ∙ t

-- and that of the planes
module _ (head : Head) (w rows size : ℕ) (k : Known (rows * (bytes_of head * w)) size) where
  planes_small : rows * (planes_of head * w) ≤ size
  planes_small = omega (arith, k.is, mul-le-mul_right (rows * w) (planes_within head))

  -- no pixels
  module _ (z : size ≡ 0) where
    pub none_fine : (planes out : ℕ) → no_refusal ≡ verdict (convert_checks head w rows planes out)
    none_fine planes out =
        let a : rows * (bytes_of head * w) ≤ most64 = k.small in
        let d : rows * (planes_of head * w) ≤ planes = omega (arith, planes_small) in
        let e : rows * (bytes_of head * w) ≤ out = omega (arith, k.is) in
        search verdicts

    pub none_written : (planes out : List ℕ) → out ≡ overlay (pixels head w rows planes) out
    unfolding pixels overlay
    none_written planes out =
        let long = per_row_length (row_pixels head w w) (planes_of head * w) (bytes_of head * w) rows planes (omega (arith, planes_small)) (rows_even head w) in
        rw (empty (pixels head w rows planes) (long ∙ omega (arith, k.is)))
      where
        empty : (l : List ℕ) → length l ≡ 0 → l ≡ []
        empty [] e = refl
        empty (x ∷ l) e = absurd (omega arith)

  -- so many pixels are a number of 64 bits, and so are the bytes of their planes
  pub pixels_fit : val.Fits w64 (rows * w)
  pixels_fit = record { fits = omega (arith, k.small, le-mul_of_pos_right (rows * w) (bytes_some head)) }

  module _ (p : ℕ) (ep : p ≡ planes_of head) where
    planes_are : p * (rows * w) ≡ rows * (planes_of head * w)
    planes_are = omega (arith, ap (λ (m : ℕ). m * (rows * w)) ep)

    pub planes_fit : val.Fits w64 (p * (rows * w))
    planes_fit = record { fits = omega (arith, k.small, k.is, planes_are, planes_small) }

    pub planes_short : (planes out : ℕ) → planes < p * (rows * w) → Err truncated ≡ verdict (convert_checks head w rows planes out)
    planes_short planes out h =
        let a : rows * (bytes_of head * w) ≤ most64 = k.small in
        let d : planes < rows * (planes_of head * w) = omega (arith, planes_are) in
        search verdicts

    module _ (planes out : ℕ) (fits : p * (rows * w) ≤ planes) where
      pub out_short : out < size → Err output_too_small ≡ verdict (convert_checks head w rows planes out)
      out_short h =
          let a : rows * (bytes_of head * w) ≤ most64 = k.small in
          let d : rows * (planes_of head * w) ≤ planes = omega (arith, planes_are) in
          let e : out < rows * (bytes_of head * w) = omega (arith, k.is) in
          search verdicts

      module _ (room : size ≤ out) where
        pub both_fine : no_refusal ≡ verdict (convert_checks head w rows planes out)
        both_fine =
            let a : rows * (bytes_of head * w) ≤ most64 = k.small in
            let d : rows * (planes_of head * w) ≤ planes = omega (arith, planes_are) in
            let e : rows * (bytes_of head * w) ≤ out = omega (arith, k.is) in
            search verdicts

        module _ (some : size ≡ 0 → ⊥) where
          one_row : bytes_of head * w ≤ size
          one_row =
              let r : rows ≡ 0 → ⊥ = λ z. some (k.is ∙ rw (z, zero-mul)) in
              let m : 1 * (bytes_of head * w) ≤ rows * (bytes_of head * w) = mul-le-mul_right (bytes_of head * w) (omega arith) in
              omega (arith, k.is)

          pub row_fits_word : (b : ℕ) → b ≡ bytes_of head → val.Fits w64 (b * w)
          row_fits_word b eb = record { fits = omega (arith, one_row, k.is, k.small, ap (λ (m : ℕ). m * w) eb) }

          pub both_sized : (b : ℕ) → b ≡ bytes_of head → Scatterable head w w rows 0 (b * w) planes out
          both_sized b eb =
              rw eb
              (record {
                columns = omega arith;
                planes_in = omega (arith, planes_are);
                rows_in = λ r h. omega (arith, row_fits r rows (bytes_of head * w) h, k.is);
              })
