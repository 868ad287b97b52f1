-- What the checks leave for the work: sizes that divide, buffers with room, and a step that fits and is not zero.
use Prim.Native.Nat.{ℕ, ◌*◌, ◌%◌, ◌<◌, ◌≤◌}
use mathlib.Core.Path.{◌≡◌, refl, sym, ◌∙◌}
use mathlib.Core.Bool.{Bool, true, false}
use mathlib.Core.Logic.{◌⊎◌, inl, inr}
use mathlib.Core.List.{[], ◌∷◌}
use native.Mathlib.Omega.{arith}
use native.Mathlib.Nat.{mul-le-mul, mul-pos, le-mul_of_pos_right, dvd_of_mod-eq-zero, dvd_trans, dvd-mul_left, le_of_dvd, mod-eq-zero_of_dvd}
use mir.Syntax.{w64}
use mir.Val.{Fits}
use lib.Dec.{ltb, leb, eqb}
use borrow.Author.Tests.{eqb-true, ltb-true, leb-true}
use Rattle.lists.specs.Lists.{pick}
use Rattle.checks.specs.Numbers.{invalid, unsupported, output_too_small, Verdict}
use Rattle.checks.specs.Checks.{must, verdict, Holds}
use Rattle.checks.proofs.Exact.{fine}
use Rattle.checks.proofs.Rules.{allow, refuse, verdicts}
use Rattle.lists.proofs.Counters.{exactly}
use Rattle.native_fp.specs.NativeFp.{sample_bytes, fp_checks}
use Rattle.native_fp.specs.Inner.{Sized}
use Rattle.std.specs.Prelude.{Ok, Err}

few : (n : ℕ) (a b c : Bool) → eqb n 2 ≡ a → eqb n 3 ≡ b → eqb n 4 ≡ c → pick a true (pick b true (pick c true (eqb n 8))) ≡ true
    → (0 < n) × (n ≤ 8)
few n true b c p q r e = let z = eqb-true n 2 p in (omega arith, omega arith)
few n false true c p q r e = let z = eqb-true n 3 q in (omega arith, omega arith)
few n false false true p q r e = let z = eqb-true n 4 r in (omega arith, omega arith)
few n false false false p q r e = let z = eqb-true n 8 e in (omega arith, omega arith)

-- a sample's bytes are few
pub sample_few : (n : ℕ) → sample_bytes n ≡ true → (0 < n) × (n ≤ 8)
sample_few n e = few n (eqb n 2) (eqb n 3) (eqb n 4) refl refl refl e

module _ (ch bytes : ℕ) {s : Bool} (e : s ≡ sample_bytes bytes) (t : s ≡ true) where
  pub step_fits : ch ≤ 64 → Fits w64 (ch * bytes)
  step_fits h =
      let m : ch * bytes ≤ 64 * 8 = mul-le-mul h (sample_few bytes (sym e ∙ t)).1 in
      record { fits = omega arith }

  pub step_some : (ch ≡ 0 → ⊥) → 0 < ch * bytes
  step_some h = mul-pos (omega arith) (sample_few bytes (sym e ∙ t)).0

sizes : (row ch bytes raw scratch out : ℕ) → Holds (fp_checks row ch bytes raw scratch out) → Sized row ch bytes raw scratch out
unfolding Holds
sizes row ch bytes raw scratch out h =
    let b = sample_few bytes h.0 in
    let c = ltb-true 0 ch h.1.0 in
    let some = ltb-true 0 row h.1.1.1.0 in
    let divides = dvd_of_mod-eq-zero (ch * bytes) (eqb-true (row % (ch * bytes)) 0 h.1.1.1.1.0) in
    record {
      some = some;
      channels = c;
      narrow = omega (arith, le-mul_of_pos_right ch b.0, le_of_dvd some divides);
      parts = b.0;
      samples = mod-eq-zero_of_dvd bytes (dvd_trans bytes (dvd-mul_left bytes ch) divides);
      whole = exactly raw row (eqb-true _ _ h.1.1.1.1.1.0);
      room = leb-true _ _ h.1.1.1.1.1.1.0;
      space = leb-true _ _ h.1.1.1.1.1.1.1.0;
    }

pub sized : (row ch bytes raw scratch out : ℕ) {y : Unit {0}} → Ok y ≡ verdict (fp_checks row ch bytes raw scratch out) → Sized row ch bytes raw scratch out
sized row ch bytes raw scratch out e = sizes row ch bytes raw scratch out ((fine _).0 (sym e))

-- the first check, by what a call told of the sample
module _ (row ch bytes raw scratch out : ℕ) {s : Bool} (e : s ≡ sample_bytes bytes) where
  odd_sample : s ≡ false → Err unsupported ≡ verdict (fp_checks row ch bytes raw scratch out)
  odd_sample f = refuse _ _ _ (sym e ∙ f)

  known_sample : s ≡ true → {r : Verdict} → r ≡ verdict (must (ltb 0 ch) unsupported ∷ must (leb ch 64) unsupported ∷ must (ltb 0 row) unsupported
      ∷ must (eqb (row % (ch * bytes)) 0) invalid ∷ must (eqb (raw % row) 0) invalid
      ∷ must (leb raw out) output_too_small ∷ must (leb raw scratch) output_too_small ∷ [])
      → r ≡ verdict (fp_checks row ch bytes raw scratch out)
  known_sample t k = allow _ _ _ (sym e ∙ t) k

  -- what is refused with 3, as the code finds it
  pub unsupported_sizes : (s ≡ false)
      ⊎ (((s ≡ true) × (ch ≡ 0))
      ⊎ (((s ≡ true) × (ch ≡ 0 → ⊥) × (64 < ch)) ⊎ ((s ≡ true) × (ch ≡ 0 → ⊥) × (ch ≤ 64) × (row ≡ 0))))
      → Err unsupported ≡ verdict (fp_checks row ch bytes raw scratch out)
  unsupported_sizes (inl f) = odd_sample f
  unsupported_sizes (inr (inl h)) = known_sample h.0 (let z = h.1 in search verdicts)
  unsupported_sizes (inr (inr (inl h))) = known_sample h.0 (let n = h.1 in let m = h.2 in search verdicts)
  unsupported_sizes (inr (inr (inr h))) = known_sample h.0 (let n = h.1 in let m = h.2 in let z = h.3 in search verdicts)

pub ruleset tests = (step_fits, step_some, unsupported_sizes, verdicts)
