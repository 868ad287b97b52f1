-- What stands at each index of the samples; with the laws of a sample in rows64 (plain, first, next), this is rule 9.3.
use Prim.Native.Nat.{ℕ, ◌+◌, ◌*◌, ◌/◌, ◌%◌, ◌^◌, ◌<◌, ◌≤◌}
use mathlib.Core.Path.{◌≡◌, ap, ◌∙◌}
use mathlib.Core.List.{List, reverse}
use mathlib.Core.Bool.{Bool, true, false}
use native.Mathlib.Omega.{arith}
use lib.ListN.{length, take, drop, get_or, length-drop}
use lib.Seq.{length-take-le, get_or-take, get_or-drop}
use Rattle.lists.specs.Lists.{span}
use Rattle.lists.proofs.Rows.{joined_at, per_row_at}
use Rattle.words64.specs.Words64.{number_from, word}
use Rattle.rows64.specs.Rows64.{value, sample, row64}
use Rattle.float64.specs.Float64.{samples, size64}
use Rattle.lists.proofs.Overlay.{listed}
use Rattle.words64.proofs.Digits.{digit_at}
use Rattle.rows64.proofs.Written.{bytes_of, eight, row_length}

-- byte j of sample n of row y is digit j of that sample
pub decoded : (little predict : Bool) (w h ch reset : ℕ) (raw : List ℕ) → size64 w h ch ≤ length raw → (y n j : ℕ) → y < h → n < w * ch → j < 8
    → get_or (samples little predict w h ch reset raw) (y * (8 * (w * ch)) + (n * 8 + j)) 0
    ≡ sample little predict ch reset (take (8 * (w * ch)) (drop (y * (8 * (w * ch))) raw)) n / 256 ^ j % 256
unfolding samples row64
decoded little predict w h ch reset raw long y n j a b c =
    let size = 8 * (w * ch) in
    per_row_at (row64 little predict w ch reset) size size h raw long (λ xs l. row_length little predict w ch reset xs) y (n * 8 + j) a (omega arith)
    ∙ joined_at (bytes_of little predict ch reset (take size (drop (y * size) raw))) 8 (w * ch) (eight _ _) n j b c
    ∙ digit_at 8 _ j c

-- eight bytes are a number below 2^64, in both orders
numbers_fit : (p : List ℕ) → length p ≡ 8 → ((k : ℕ) → k < 8 → get_or p k 0 < 256) → (number_from p < 2 ^ 64) × (number_from (reverse p) < 2 ^ 64)
unfolding number_from span
numbers_fit p l b =
    let b0 = b 0 (omega arith) in
    let b1 = b 1 (omega arith) in
    let b2 = b 2 (omega arith) in
    let b3 = b 3 (omega arith) in
    let b4 = b 4 (omega arith) in
    let b5 = b 5 (omega arith) in
    let b6 = b 6 (omega arith) in
    let b7 = b 7 (omega arith) in
    (omega (arith, ap number_from (listed 8 p l)), omega (arith, ap (λ (x : List ℕ). number_from (reverse x)) (listed 8 p l)))

word_fits : (little : Bool) (p : List ℕ) → length p ≡ 8 → ((k : ℕ) → k < 8 → get_or p k 0 < 256) → word little p < 2 ^ 64
unfolding word
word_fits true p l b = (numbers_fit p l b).0
word_fits false p l b = (numbers_fit p l b).1

pub value_fits : (little : Bool) (row : List ℕ) (n : ℕ) → ((k : ℕ) → get_or row k 0 < 256) → 8 * n + 8 ≤ length row → value little row n < 2 ^ 64
unfolding value
value_fits little row n bytes h =
    word_fits little (take 8 (drop (8 * n) row)) (length-take-le 8 (drop (8 * n) row) (simp length-drop (omega arith)))
    (λ k l. rw (get_or-take 8 (drop (8 * n) row) k 0 l, get_or-drop (8 * n) row k 0) (bytes (8 * n + k)))
