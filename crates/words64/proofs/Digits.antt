-- Eight bytes and the number they stand for: what the loads and the stores compute.
use Prim.Native.Nat.{ℕ, zero, suc, ◌+◌, ◌*◌, ◌/◌, ◌%◌, ◌^◌, ◌<◌}
use mathlib.Core.Path.{◌≡◌, refl, ap, ◌∙◌}
use mathlib.Core.List.{List, reverse}
use mathlib.Core.Bool.{true, false}
use native.Mathlib.Omega.{arith}
use native.Mathlib.Nat.{div-lt_iff_lt-mul, div-div-eq-div-mul, div-one, pow-zero, pow-suc, pow-succ', not-suc-le-zero, le_of_suc-le-suc}
use lib.ListN.{length, get_or}
use Rattle.lists.specs.Lists.{span}
use Rattle.std.specs.Int.{w64, from_le_bytes, to_le_bytes}
use Rattle.words64.specs.Words64.{number_from, digits, word}
use Rattle.lists.proofs.Overlay.{listed}

-- std's reading of eight little-endian bytes is the number that they stand for
pub little_word : (p : List ℕ) → length p ≡ 8 → from_le_bytes w64 p ≡ word true p
unfolding word number_from span
little_word p n = omega (arith, ap number_from (listed 8 p n))

-- and so are bytes joined from the last to the first
pub big_joined : (p : List ℕ) (r : ℕ) → length p ≡ 8
    → r ≡ get_or p 7 0 + 256 * (get_or p 6 0 + 256 * (get_or p 5 0 + 256 * (get_or p 4 0
    + 256 * (get_or p 3 0 + 256 * (get_or p 2 0 + 256 * (get_or p 1 0 + 256 * get_or p 0 0))))))
    → r ≡ word false p
unfolding word number_from span
big_joined p r n e = omega (arith, e, ap (λ (x : List ℕ). number_from (reverse x)) (listed 8 p n))

-- and std's writing of a number is the number's digits
pub written_digits : (v : ℕ) → to_le_bytes w64 v ≡ digits 8 v
unfolding digits
written_digits v = simp div-div-eq-div-mul

pub digits_length : (k v : ℕ) → length (digits k v) ≡ k
unfolding digits
digits_length zero v = refl
digits_length (suc k) v = ap suc (digits_length k (v / 256))

pub number_digits : (k v : ℕ) → v < 256 ^ k → number_from (digits k v) ≡ v
unfolding digits number_from
number_digits zero v h = omega arith
number_digits (suc k) v h =
    let l : v / 256 < 256 ^ k = (div-lt_iff_lt-mul {k = 256} (omega arith)).1 (rw pow-suc at h) in
    omega (arith, number_digits k (v / 256) l)

-- digit j, by a division
pub digit_at : (k v j : ℕ) → j < k → get_or (digits k v) j 0 ≡ v / 256 ^ j % 256
unfolding digits
digit_at zero v j h = absurd (not-suc-le-zero h)
digit_at (suc k) v zero h = rw (pow-zero, div-one)
digit_at (suc k) v (suc j) h =
    digit_at k (v / 256) j (le_of_suc-le-suc h) ∙ rw (div-div-eq-div-mul v 256 (256 ^ j), ← pow-succ' 256 j)
