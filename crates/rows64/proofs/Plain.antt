-- Without prediction: a row's samples are its words, whatever its channels, and rows one after the other are one row.
use Rattle.std.proofs.Common.{◌≡◌, ℕ, zero, suc, ◌+◌, ◌-◌, ◌*◌, ◌<◌, ◌≤◌, Bool, false, List, ◌++◌, length, take, drop, ap, refl, sym, ◌∙◌, arith, rules}
use Rattle.std.proofs.lemmas.List.{drop-take, take-take, drop-drop}
use native.Mathlib.Nat.{add-zero, zero-add, suc-add, add-suc, suc-mul, zero-mul, mul_assoc, mul_comm}
use mathlib.Core.List.{append_assoc}
use Rattle.lists.specs.Lists.{joined, per_row}
use borrow.Rule.Slice.PartMut.{mid_of, put_mid}
use Rattle.lists.proofs.Rows.{Joining, joining_none, joining_more, joining_exactly}
use Rattle.words64.specs.Words64.{digits, word}
use Rattle.words64.proofs.Digits.{digits_length}
use Rattle.rows64.specs.Rows64.{value, sample, row64}
use Rattle.rows64.specs.Inner.{plain_row}
use Rattle.rows64.proofs.Written.{eight, at_place}

abbrev words_of : Bool → List ℕ → ℕ → List ℕ
words_of little raw k = digits 8 (value little raw k)

-- the first i samples are written
abbrev pub Copying : Bool → ℕ → List ℕ → List ℕ → List ℕ → ℕ → Type 0
Copying little n raw old out i = Joining (words_of little raw) 8 n old out i (8 * i)

pub copying_none : (little : Bool) (n : ℕ) (raw out : List ℕ) → length out ≡ 8 * n → Copying little n raw out out 0
copying_none little n raw out l = joining_none _ 8 n out (omega (arith, l))

module _ (little : Bool) (n : ℕ) (raw old out : List ℕ) (i : ℕ) (s : Copying little n raw old out i) where
  pub copying_more : i < n → (v : ℕ) (ys : List ℕ) → v ≡ word little (mid_of (8 * i) (8 * i + 8 - 8 * i) raw) → ys ≡ digits 8 v
      → Copying little n raw old (put_mid (8 * i) (8 * i + 8 - 8 * i) out ys) (i + 1)
  unfolding value
  copying_more h v ys v-is ys-is =
      let k : 8 * i + 8 - 8 * i ≡ 8 = omega arith in
      let y : ys ≡ words_of little raw i = ys-is ∙ ap (digits 8) (v-is ∙ rw k) in
      at_place _ _ _ _ _ _ _ _ _ (joining_more _ 8 n old out i (8 * i) s h ys y (rw ys-is (digits_length 8 v))) refl (omega arith)

  pub copying_all : n ≤ i → length old ≡ 8 * n → out ≡ plain_row little n raw
  unfolding plain_row
  copying_all h l = joining_exactly _ 8 n old out i (8 * i) s h (eight _ _) (omega (arith, l))

pub ruleset copies = (copying_none, copying_more, copying_all, rules)

-- and these are what a row without prediction is
pub plain_is : (little : Bool) (w ch reset : ℕ) (raw out : List ℕ) → out ≡ plain_row little (w * ch) raw → out ≡ row64 little false w ch reset raw
unfolding plain_row row64 sample
plain_is little w ch reset raw out e = e

-- lists joined, in two parts, and the same ones counted from another place
joined_append : (f : ℕ → List ℕ) (i m k : ℕ) → joined f i (m + k) ≡ joined f i m ++ joined f (i + m) k
unfolding joined
joined_append f i zero k = rw (zero-add k, add-zero i)
joined_append f i (suc m) k =
    let q : i + suc m ≡ suc i + m = omega arith in
    rw (suc-add m k, q, append_assoc (f i), joined_append f (suc i) m k)

joined_same : (f g : ℕ → List ℕ) (i j m : ℕ) → ((k : ℕ) → k < m → f (i + k) ≡ g (j + k)) → joined f i m ≡ joined g j m
unfolding joined
joined_same f g i j zero e = refl
joined_same f g i j (suc m) e =
    let z : f i ≡ g j = rw (add-zero i, add-zero j) at (e 0 (omega arith)) in
    let t : joined f (suc i) m ≡ joined g (suc j) m =
    joined_same f g (suc i) (suc j) m (λ k h. rw (suc-add i k, suc-add j k, ← add-suc i k, ← add-suc j k) (e (suc k) (omega arith))) in
    rw (z, t)

-- eight bytes within a part of a list
part_of : (m k : ℕ) (xs : List ℕ) → k < m → take 8 (drop (8 * k) (take (8 * m) xs)) ≡ take 8 (drop (8 * k) xs)
part_of m k xs h =
    let n = 8 * m - 8 * k in
    let whole : 8 * m ≡ 8 * k + n = omega arith in
    let wide : 8 ≤ n = omega arith in
    ap (λ (l : ℕ). take 8 (drop (8 * k) (take l xs))) whole ∙ ap (take 8) (drop-take (8 * k) n xs) ∙ take-take 8 n (drop (8 * k) xs) wide

module _ (little : Bool) (w ch reset : ℕ) (raw : List ℕ) where
  abbrev row_words : ℕ
  row_words = w * ch

  abbrev row_at : ℕ → List ℕ
  row_at r = take (8 * row_words) (drop (r * (8 * row_words)) raw)

  place : (r : ℕ) → r * (8 * row_words) ≡ 8 * (r * row_words)
  place r = sym (mul_assoc r 8 row_words) ∙ ap (λ (x : ℕ). x * row_words) (mul_comm r 8) ∙ mul_assoc 8 r row_words

  word_is : (r k : ℕ) → k < row_words → value little (row_at r) k ≡ value little raw (r * row_words + k)
  unfolding value
  word_is r k h =
      let p : r * (8 * row_words) + 8 * k ≡ 8 * (r * row_words + k) = omega (arith, place r) in
      ap (word little)
      (part_of row_words k (drop (r * (8 * row_words)) raw) h ∙ ap (take 8) (drop-drop (8 * k) (r * (8 * row_words)) raw)
      ∙ ap (λ (l : ℕ). take 8 (drop l raw)) p)

  row_is : (r : ℕ) → row64 little false w ch reset (row_at r) ≡ joined (words_of little raw) (r * row_words) row_words
  unfolding row64 sample
  row_is r =
      joined_same (words_of little (row_at r)) (words_of little raw) 0 (r * row_words) row_words
      (λ k h. ap (digits 8) (ap (value little (row_at r)) (zero-add k) ∙ word_is r k h))

  rows_from : (i h : ℕ) → joined (λ r. row64 little false w ch reset (row_at r)) i h ≡ joined (words_of little raw) (i * row_words) (h * row_words)
  unfolding joined
  rows_from i zero = rw (zero-mul row_words)
  rows_from i (suc h) =
      let q : suc i * row_words ≡ i * row_words + row_words = suc-mul i row_words ∙ omega arith in
      let n : suc h * row_words ≡ row_words + h * row_words = suc-mul h row_words ∙ omega arith in
      rw (n, joined_append (words_of little raw) (i * row_words) row_words (h * row_words), ← q, ← row_is i, ← rows_from (suc i) h)

  pub rows_plain : (h : ℕ) → per_row (row64 little false w ch reset) (8 * (w * ch)) h raw ≡ plain_row little (h * (w * ch)) raw
  unfolding per_row plain_row
  rows_plain h = rows_from 0 h ∙ rw (zero-mul row_words)
