-- The one charge for all segments: what is summed so far, with what is still to come, is the whole.
use Prim.Native.Nat.{ℕ, suc, ◌+◌, ◌-◌, ◌<◌, ◌≤◌}
use mathlib.Core.Path.{◌≡◌, refl, ◌∙◌}
use native.Mathlib.Omega.{arith}
use native.Mathlib.Nat.{sub-zero}
use native.Mathlib.Numerals.{add-one}
use Rattle.checks.specs.Sizes.{within, most64}
use Rattle.checks.proofs.Sizes.{fits, fits_is, over_part}
use Rattle.seen.specs.Seen.{Seen}
use Rattle.picture.specs.declared.Format.{Format}
use Rattle.quality.specs.Quality.{segment_charge}
use Rattle.admission.specs.Admission.{charges_of, picture_charge}
use Rattle.std.specs.Prelude.{Some, None}

-- k segments are charged
pub record Charging (v : Seen) (f : Format) (k total : ℕ) : Type 0 where
  pub upto : k ≤ f.segments
  pub small : total ≤ most64
  pub whole : picture_charge v f ≡ total + charges_of v f k (f.segments - k)

pub charging_none : (v : Seen) (f : Format) → Charging v f 0 0
charging_none v f = record { upto = omega arith; small = omega arith; whole = rw (sub-zero f.segments) (omega arith) }

module _ (v : Seen) (f : Format) (k total : ℕ) (s : Charging v f k total) where
  module _ (h : k < f.segments) where
    opened : picture_charge v f ≡ total + (segment_charge v f k + charges_of v f (k + 1) (f.segments - (k + 1)))
    unfolding charges_of
    opened =
        let e : f.segments - k ≡ suc (f.segments - (k + 1)) = omega arith in
        s.whole ∙ rw (e, add-one k)

    pub charge_over : None ≡ within (segment_charge v f k) → None ≡ within (picture_charge v f)
    charge_over q = over_part (segment_charge v f k) (picture_charge v f) q refl (omega (arith, opened))

    module _ {charge : ℕ} (q : Some charge ≡ within (segment_charge v f k)) where
      charge_is_lem : charge ≡ segment_charge v f k
      charge_is_lem = (fits_is (segment_charge v f k) charge q refl).is

      pub sum_over : None ≡ within (total + charge) → None ≡ within (picture_charge v f)
      sum_over e = over_part (total + charge) (picture_charge v f) e refl (omega (arith, opened, charge_is_lem))

      pub charging_more : {more : ℕ} → Some more ≡ within (total + charge) → Charging v f (k + 1) more
      charging_more e =
          let t = fits_is (total + charge) _ e refl in
          record { upto = omega arith; small = omega (arith, t.is, t.small); whole = omega (arith, opened, charge_is_lem, t.is) }

  pub charging_all : f.segments ≤ k → Some total ≡ within (picture_charge v f)
  unfolding charges_of
  charging_all h =
      let e : f.segments - k ≡ 0 = omega arith in
      let z : picture_charge v f ≡ total + charges_of v f k 0 = s.whole ∙ rw e in
      let w : picture_charge v f ≡ total = omega (arith, z) in
      rw w (fits total s.small)
