-- The plain forms: each answer of the strict reader as what an image or a decode gives.
use Prim.Native.Nat.{ℕ}
use mathlib.Core.Path.{◌≡◌, refl, ap, ◌∙◌}
use mathlib.Core.List.{List, []}
use lib.ListN.{length}
use borrow.Author.Tests.{eq-eqb, ne_eqb}
use Rattle.checks.specs.Numbers.{number_of, invalid, told_number, told_left, Told, leaving}
use Rattle.checks.specs.Checks.{run, on_pass}
use Rattle.checks.proofs.Rules.{must_no, must_yes}
use Rattle.seen.specs.Seen.{seen}
use Rattle.decoding.specs.Strict.{decode_checks, picture_over, cleared_over}
use Rattle.checks.specs.declared.Refused.{Refused}
use Rattle.plain_image.specs.Image.{image_checks, image_decode_told, ImageDecoded}
use Rattle.image_info.specs.declared.Info.{Info}
use Rattle.std.specs.Prelude.{Ok, Err}

-- the image's own number, then what decode of its handle says
module _ (file : List ℕ) (i : Info) (output scratch : List ℕ) (units : ℕ) where
  abbrev Done : ℕ → ℕ → List ℕ → List ℕ → Type 0
  Done = ImageDecoded file i output scratch units

  abbrev told₀ : Told
  told₀ = image_decode_told file i output scratch units

  -- the buffers after an answer
  abbrev shown : Told → List ℕ
  shown t = on_pass t (picture_over (seen file []) i.handle output) output

  abbrev cleared : Told → List ℕ
  cleared t = on_pass t (cleared_over i.handle scratch) scratch

  as_told : (t : Told) → t ≡ told₀ → (x y : List ℕ) → x ≡ shown t → y ≡ cleared t → Done (told_number t) (told_left t) x y
  as_told t e x y ex ey = record {
    number_is = ap told_number e;
    left_is = ap told_left e;
    output_is = ex ∙ ap shown e;
    scratch_is = ey ∙ ap cleared e;
  }

  pub carries_refusal : (i.number ≡ 0 → ⊥) → {n : ℕ} → n ≡ number_of invalid → Done n units output scratch
  unfolding image_checks
  carries_refusal h en = rw en (as_told (Err (leaving invalid units)) (must_no _ _ _ _ (ne_eqb _ _ h)) output scratch refl refl)

  module _ (z : i.number ≡ 0) where
    told : {s : Told} → s ≡ run (decode_checks (seen file []) i.limits i.handle (length output) (length scratch)) units → s ≡ told₀
    unfolding image_checks
    told q = must_yes _ _ _ _ (eq-eqb _ _ z) q

    module _ (x y : List ℕ) where
      pub not_decoded : {r : Refused} → Err r ≡ run (decode_checks (seen file []) i.limits i.handle (length output) (length scratch)) units
          → x ≡ output → y ≡ scratch → {n : ℕ} → n ≡ number_of r.refusal → Done n r.left x y
      not_decoded q ex ey en = rw en (as_told _ (told q) x y ex ey)

      pub decoded : {u : ℕ} → Ok u ≡ run (decode_checks (seen file []) i.limits i.handle (length output) (length scratch)) units
          → x ≡ picture_over (seen file []) i.handle output → y ≡ cleared_over i.handle scratch → Done 0 u x y
      decoded q ex ey = as_told _ (told q) x y ex ey
