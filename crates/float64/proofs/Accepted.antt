-- The size of the picture as the code finds it, by a product of three, and what is known where every test passes.
use Prim.Native.Nat.{ℕ, ◌*◌, ◌^◌, ◌<◌, ◌≤◌}
use mathlib.Core.Path.{◌≡◌, sym, ap, ◌∙◌}
use native.Mathlib.Omega.{arith}
use native.Mathlib.Nat.{mul_comm, mul_assoc, le-mul_of_pos_right}
use mir.Syntax.{w64}
use mir.Val.{Fits}
use Rattle.std.specs.Prelude.{Option, Some, None, Err}
use Rattle.std.specs.Option.{ok_or}
use Rattle.checks.specs.Numbers.{Verdict}
use Rattle.checks.specs.Sizes.{within, most64}
use Rattle.checks.specs.declared.Refusal.{Refusal}
use Rattle.checks.proofs.Sizes.{Known, fits_is, over_is}
use Rattle.float64.specs.Float64.{size64}

pub row_size : (w ch : ℕ) → w * (8 * ch) ≡ 8 * (w * ch)
row_size w ch = sym (mul_assoc w 8 ch) ∙ ap (λ (x : ℕ). x * ch) (mul_comm w 8) ∙ mul_assoc 8 w ch

-- so many bytes are those of one row as long as all rows, whose columns are a number of 64 bits
pub all_columns : (w h ch : ℕ) → w * h * ch ≡ h * (w * ch)
all_columns w h ch = ap (λ (n : ℕ). n * ch) (mul_comm w h) ∙ mul_assoc h w ch

pub one_size : (w h ch : ℕ) → 8 * (w * h * ch) ≡ size64 w h ch
one_size w h ch = ap (λ (n : ℕ). 8 * n) (all_columns w h ch) ∙ sym (row_size h (w * ch))

pub columns_fit : (w h ch : ℕ) → 0 < ch → size64 w h ch < 2 ^ 64 → Fits w64 (w * h)
columns_fit w h ch some small =
    let more : w * h ≤ w * h * ch = le-mul_of_pos_right (w * h) some in
    record { fits = omega (arith, one_size w h ch, more) }

module _ (w h ch : ℕ) {r : Option ℕ} (e : r ≡ within (h * (w * (8 * ch)))) where
  pub size_known : (size : ℕ) → r ≡ Some size → Known (size64 w h ch) size
  size_known size q = fits_is (size64 w h ch) size (rw row_size at e) q

  pub size_over : r ≡ None → most64 < size64 w h ch
  size_over q = over_is (size64 w h ch) (rw row_size at e) q

-- the refusal that stands for a number which is none
pub no_number : {r : Option ℕ} {e n : Refusal} {v : Verdict} → r ≡ None → Err e ≡ ok_or r n → Err n ≡ v → Err e ≡ v
no_number {r} {e} {n} z q t = let k = rw z at q in let same : e ≡ n = cc in ap Err same ∙ t
