-- The digits that the kit's decimal makes of a number are those of the definition, at most twenty, and stand where they are placed.
use Prim.Native.Nat.{ℕ, zero, suc, ◌+◌, ◌-◌, ◌*◌, ◌/◌, ◌%◌, ◌^◌, ◌<◌, ◌≤◌}
use mathlib.Core.Path.{◌≡◌, refl, ◌∙◌}
use mathlib.Core.Bool.{Bool, true, false}
use mathlib.Core.List.{List}
use native.Mathlib.Omega.{arith}
use native.Mathlib.Nat.{pow-suc, one-le-pow, pow-le-pow_right, mod-lt, le-div_iff_mul-le, div-lt_iff_lt-mul}
use lib.Dec.{ltb}
use lib.ListN.{length, take}
use borrow.Author.Rules.{rules}
use borrow.Author.Tests.{lt-ltb, le-ltb, ltb-true, ltb-false}
use Rattle.io.specs.Digits.{last_digits, IsDigitCount}
use Rattle.pgm.specs.Pgm.{decimal_in, decimal_of}
use Rattle.placing.specs.Placing.{BytesPlaced}

-- a number of two digits or more, and the same with one fewer
tens : (n k : ℕ) → IsDigitCount 10 1 n (suc (suc k)) → 10 ^ k * 10 ≤ n
tens n k f =
    let e : suc (suc k) - 1 ≡ suc k = omega arith in
    rw (e, pow-suc 10 k) at (f.2 (omega arith))

fewer : (n k : ℕ) → IsDigitCount 10 1 n (suc (suc k)) → IsDigitCount 10 1 (n / 10) (suc k)
fewer n k f =
    let small : n < 10 ^ suc k * 10 = rw (pow-suc 10 (suc k)) at f.1 in
    let e : suc k - 1 ≡ k = omega arith in
    let below : n / 10 < 10 ^ suc k = (div-lt_iff_lt-mul {k = 10} {x = n} {y = 10 ^ suc k} (omega arith)).1 small in
    let above : 10 ^ k ≤ n / 10 = (le-div_iff_mul-le {k = 10} {x = 10 ^ k} {y = n} (omega arith)).1 (tens n k f) in
    (omega arith, below, λ h. rw e above)

-- the fewest digits are those of the definition
decimal_is : (most n k : ℕ) → k ≤ most → IsDigitCount 10 1 n k → last_digits 10 k n ≡ decimal_in most n
unfolding decimal_in
decimal_is zero n k h f = absurd (omega (arith, f.0))
decimal_is (suc most) n zero h f = absurd (omega (arith, f.0))
decimal_is (suc most) n (suc zero) h f =
    let small : n < 10 = f.1 in
    rw (lt-ltb (n % 10) 10 (mod-lt n (omega arith)), lt-ltb n 10 small)
decimal_is (suc most) n (suc (suc k)) h f =
    let ten : 10 ≤ n = omega (arith, tens n k f, one-le-pow k 10 (omega arith)) in
    rw (lt-ltb (n % 10) 10 (mod-lt n (omega arith)), le-ltb n 10 ten, decimal_is most (n / 10) (suc k) (omega arith) (fewer n k f))

module _ (n k : ℕ) (small : n < 18446744073709551616) (f : IsDigitCount 10 1 n k) where
  twenty : k ≤ 20
  twenty = by (ltb 20 k) refl
    where
      by : (b : Bool) → ltb 20 k ≡ b → k ≤ 20
      by true t =
          let more : 20 < k = ltb-true 20 k t in
          absurd (omega (arith, f.2 (omega arith), pow-le-pow_right {n = 10} (omega arith) {i = 20} {j = k - 1} (omega arith)))
      by false t = ltb-false 20 k t

  module _ (text : List ℕ) (counts : k ≡ length (take k text)) where
    pub number_fits : (at room : ℕ) → at + 20 ≤ room → at + length (take k text) ≤ room
    number_fits at room h = omega (arith, twenty)

    module _ (at : ℕ) (old : List ℕ) (end : ℕ) (out : List ℕ) (p : BytesPlaced (take k text) at old end out) where
      pub number_placed : take k text ≡ last_digits 10 k n → BytesPlaced (decimal_of n) at old end out
      number_placed e = rw (e ∙ decimal_is 20 n k twenty f) at p

      pub number_short : end ≤ at + 20
      number_short = omega (arith, p.ends, twenty)

pub ruleset decimals = (number_fits, number_placed, number_short, rules)
