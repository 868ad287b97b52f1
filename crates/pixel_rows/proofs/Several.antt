-- The writer of joined lists (Rattle.lists.proofs.Rows), several lists at once.
use Prim.Native.Nat.{ℕ, zero, suc, ◌+◌, ◌-◌, ◌*◌, ◌<◌, ◌≤◌}
use mathlib.Core.Path.{◌≡◌, refl, ap, ◌∙◌}
use mathlib.Core.List.{List, ◌++◌, append_assoc}
use native.Mathlib.Omega.{arith}
use native.Mathlib.Nat.{mul-le-mul_right, add-zero, zero-add, suc-add, add-suc, add-mul}
use borrow.Rule.Slice.PartMut.{put_mid}
use lib.ListN.{length}
use Rattle.lists.specs.Lists.{joined}
use Rattle.lists.proofs.Wrote.{wrote_part}
use Rattle.lists.proofs.Rows.{Even, Joining, joined_length, joining_exactly}

-- the lists from i on, in two parts
joined_append : (f : ℕ → List ℕ) (i m k : ℕ) → joined f i (m + k) ≡ joined f i m ++ joined f (i + m) k
unfolding joined
joined_append f i zero k = rw (zero-add k, add-zero i)
joined_append f i (suc m) k =
    let q : i + suc m ≡ suc i + m = omega arith in
    rw (suc-add m k, q, append_assoc (f i), joined_append f (suc i) m k)

-- the same lists, counted from another place
pub joined_same : (f g : ℕ → List ℕ) (i j m : ℕ) → ((k : ℕ) → k < m → f (i + k) ≡ g (j + k)) → joined f i m ≡ joined g j m
unfolding joined
joined_same f g i j zero e = refl
joined_same f g i j (suc m) e =
    let z : f i ≡ g j = rw (add-zero i, add-zero j) at (e 0 (omega arith)) in
    let t : joined f (suc i) m ≡ joined g (suc j) m =
    joined_same f g (suc i) (suc j) m (λ k h. rw (suc-add i k, suc-add j k, ← add-suc i k, ← add-suc j k) (e (suc k) (omega arith))) in
    rw (z, t)

-- the writer at the same place, said in other words
pub at_place : (f : ℕ → List ℕ) (b n : ℕ) (old out : List ℕ) (r r' o o' : ℕ) → Joining f b n old out r o → r ≡ r' → o ≡ o' → Joining f b n old out r' o'
at_place f b n old out r r' o o' s e p = rw (e, p) at s

module _ (f : ℕ → List ℕ) (b n : ℕ) (even : Even f b n) where
  pub several_length : (i m : ℕ) → i + m ≤ n → length (joined f i m) ≡ m * b
  several_length i m h =
      ap length (joined_same f (λ k. f (i + k)) i 0 m (λ k t. rw (zero-add k)))
      ∙ joined_length (λ k. f (i + k)) b m (λ k t. even (i + k) (omega arith))

  module _ (old out : List ℕ) (r o : ℕ) (s : Joining f b n old out r o) where
    -- k lists more
    module _ (k : ℕ) (h : r + k ≤ n) where
      pub several_fit : o + k * b ≤ length out
      several_fit =
          let m : (r + k) * b ≤ n * b = mul-le-mul_right b h in
          omega (arith, s.put, s.room, s.long, add-mul r k b)

      pub several_more : (ys : List ℕ) → ys ≡ joined f r k → Joining f b n old (put_mid o (o + k * b - o) out ys) (r + k) (o + k * b)
      several_more ys e =
          let q : n - r ≡ k + (n - (r + k)) = omega arith in
          let a : joined f r (n - r) ≡ ys ++ joined f (r + k) (n - (r + k)) = rw (q, joined_append f r k, e) in
          let w = wrote_part _ _ old out o s.wrote (k * b) ys _ a (ap length e ∙ several_length r k h) several_fit in
          record { upto = h; put = omega (arith, s.put, add-mul r k b); room = s.room; long = w.same; wrote = w }

    -- all that are left, in a buffer of just that length
    module _ (l : length old ≡ n * b) where
      pub several_left : length out ≡ o + (n - r) * b
      several_left =
          let k : n ≡ r + (n - r) = omega (arith, s.upto) in
          let m : n * b ≡ r * b + (n - r) * b = ap (λ (x : ℕ). x * b) k ∙ add-mul r (n - r) b in
          omega (arith, s.long, s.put)

      pub several_last : (e : ℕ) (ys : List ℕ) → e ≡ length out → ys ≡ joined f r (n - r) → put_mid o (e - o) out ys ≡ joined f 0 n
      several_last e ys p y =
          let a : r + (n - r) ≤ n = omega (arith, s.upto) in
          let c : n ≤ r + (n - r) = omega arith in
          let j : Joining f b n old _ _ _ = several_more (n - r) a ys y in
          rw (p ∙ several_left) (joining_exactly f b n old _ (r + (n - r)) (o + (n - r) * b) j c even l)
