-- The writer of lists of one length joined, a list a turn: the pixels of a row, and the rows of a picture.
use Prim.Native.Nat.{ℕ, zero, suc, ◌+◌, ◌-◌, ◌*◌, ◌^◌, ◌<◌, ◌≤◌}
use mathlib.Core.Path.{◌≡◌, refl, sym, ap, ◌∙◌}
use mathlib.Core.List.{List, [], ◌++◌, append-nil}
use native.Mathlib.Omega.{arith}
use native.Mathlib.Nat.{sub-zero, suc-mul, mul-le-mul_right, not-suc-le-zero, le_of_suc-le-suc, zero-mul, add-zero, zero-add}
use native.Mathlib.Numerals.{add-one}
use borrow.Author.Rules.{rules}
use mir.Syntax.{w64}
use mir.Val.{Fits}
use lib.ListN.{length, take, drop, get_or, length-append, length-drop, drop_of_length-le, get_or-append}
use lib.Seq.{ext_get_or, drop-append-le, take-append-le, get_or-append-add, get_or-take, get_or-drop, length-take-le}
use borrow.Rule.Slice.PartMut.{mid_of, put_mid}
use Rattle.lists.specs.Lists.{joined, per_row, overlay}
use Rattle.lists.proofs.Wrote.{Wrote, wrote_none, wrote_part, wrote_all}

-- one more, as a sum
rows_suc : (m k : ℕ) → suc m * k ≡ m * k + k
rows_suc m k = suc-mul m k ∙ omega arith

pub row_fits : (r n k : ℕ) → r < n → r * k + k ≤ n * k
row_fits r n k h =
    let m : suc r * k ≤ n * k = mul-le-mul_right k h in
    omega (arith, rows_suc r k)

pub next_row : (r k : ℕ) → (r + 1) * k ≡ r * k + k
next_row r k = ap (λ (m : ℕ). m * k) (add-one r) ∙ rows_suc r k

-- each of n lists has b elements
abbrev pub Even : (ℕ → List ℕ) → ℕ → ℕ → Type 0
Even f b n = (i : ℕ) → i < n → length (f i) ≡ b

module _ (f : ℕ → List ℕ) (b n : ℕ) (even : Even f b n) where
  from_length : (i m : ℕ) → i + m ≤ n → length (joined f i m) ≡ m * b
  unfolding joined
  from_length i zero h = sym (zero-mul b)
  from_length i (suc m) h =
      length-append (f i) _ ∙ omega (arith, even i (omega arith), from_length (suc i) m (omega arith), rows_suc m b)

  from_at : (i m r k : ℕ) → i + m ≤ n → r < m → k < b → get_or (joined f i m) (r * b + k) 0 ≡ get_or (f (i + r)) k 0
  unfolding joined
  from_at i zero r k h l t = absurd (not-suc-le-zero l)
  from_at i (suc m) zero k h l t =
      let z : 0 * b + k ≡ k = omega (arith, zero-mul b) in
      rw (z, add-zero i) (get_or-append (f i) _ 0 k (omega (arith, even i (omega arith))))
  from_at i (suc m) (suc r) k h l t =
      let p : suc r * b + k ≡ length (f i) + (r * b + k) = omega (arith, rows_suc r b, even i (omega arith)) in
      let q : i + suc r ≡ suc i + r = omega arith in
      rw (p, q) (get_or-append-add (f i) _ (r * b + k) 0 ∙ from_at (suc i) m r k (omega arith) (le_of_suc-le-suc l) t)

  pub joined_length : length (joined f 0 n) ≡ n * b
  joined_length = from_length 0 n (omega arith)

  -- what stands at place k of list r
  pub joined_at : (r k : ℕ) → r < n → k < b → get_or (joined f 0 n) (r * b + k) 0 ≡ get_or (f r) k 0
  joined_at r k h t = from_at 0 n r k (omega arith) h t ∙ rw (zero-add r)

pub record Joining (f : ℕ → List ℕ) (b n : ℕ) (old out : List ℕ) (r o : ℕ) : Type 0 where
  pub upto : r ≤ n
  pub put : o ≡ r * b
  pub room : n * b ≤ length old
  pub long : length out ≡ length old
  pub wrote : Wrote (joined f 0 n) (joined f r (n - r)) old out o

pub joining_none : (f : ℕ → List ℕ) (b n : ℕ) (out : List ℕ) → n * b ≤ length out → Joining f b n out out 0 0
joining_none f b n out h =
    record { upto = omega arith; put = sym (zero-mul b); room = h; long = refl; wrote = rw (sub-zero n) (wrote_none (joined f 0 n) out) }

pub joined_ahead : (f : ℕ → List ℕ) (n r : ℕ) → r < n → joined f r (n - r) ≡ f r ++ joined f (r + 1) (n - (r + 1))
unfolding joined
joined_ahead f n r h =
    let m : n - r ≡ suc (n - (r + 1)) = omega arith in
    rw (m, add-one r)

pub joined_none : (f : ℕ → List ℕ) (n r : ℕ) → n ≤ r → joined f r (n - r) ≡ []
unfolding joined
joined_none f n r h = let z : n - r ≡ 0 = omega arith in rw z

module _ (f : ℕ → List ℕ) (b n : ℕ) (old out : List ℕ) (r o : ℕ) (s : Joining f b n old out r o) where
  module _ (h : r < n) where
    -- the next list fits the buffer
    pub joining_fits : o + b ≤ length out
    joining_fits = omega (arith, s.put, s.room, s.long, row_fits r n b h)

    pub joining_more : (ys : List ℕ) → ys ≡ f r → length ys ≡ b → Joining f b n old (put_mid o (o + b - o) out ys) (r + 1) (o + b)
    joining_more ys e l =
        let w = wrote_part _ _ old out o s.wrote b ys _ (rw (← e) at (joined_ahead f n r h)) l joining_fits in
        record {
          upto = omega arith;
          put = omega (arith, s.put, next_row r b);
          room = s.room;
          long = w.same;
          wrote = w;
        }

  module _ (h : n ≤ r) (even : Even f b n) where
    pub joining_all : out ≡ overlay (joined f 0 n) old
    joining_all =
        let q : r ≡ n = omega (arith, s.upto) in
        wrote_all _ old out o (rw (joined_none f n r h) at s.wrote) (joined_length f b n even ∙ ap (λ (m : ℕ). m * b) (sym q) ∙ sym s.put)

    -- a buffer of just that length is the joined list
    pub joining_exactly : length old ≡ n * b → out ≡ joined f 0 n
    unfolding overlay
    joining_exactly l =
        let z : length old ≤ length (joined f 0 n) = omega (arith, joined_length f b n even) in
        joining_all ∙ rw (drop_of_length-le old z, append-nil)

-- a part that lies in the first of two lists
part_of_front : (k b : ℕ) (xs ys : List ℕ) → k + b ≤ length xs → take b (drop k xs) ≡ take b (drop k (xs ++ ys))
part_of_front k b xs ys h =
    let p : k ≤ length xs = omega arith in
    let q : b ≤ length (drop k xs) = simp length-drop (omega arith) in
    rw (drop-append-le k xs ys p, take-append-le b (drop k xs) ys q)

module _ (f : ℕ → List ℕ) (b n : ℕ) (even : Even f b n) (k : ℕ) where
  -- list k of the joined lists
  joined_part : k < n → take b (drop (k * b) (joined f 0 n)) ≡ f k
  joined_part h =
      let d : b ≤ length (drop (k * b) (joined f 0 n)) = simp length-drop (omega (arith, joined_length f b n even, row_fits k n b h)) in
      let l : length (take b (drop (k * b) (joined f 0 n))) ≡ b = length-take-le b _ d in
      ext_get_or 0 _ (f k) (l ∙ sym (even k h))
      (λ j t. get_or-take b _ j 0 (rw l at t) ∙ get_or-drop (k * b) _ j 0 ∙ joined_at f b n even k j h (rw l at t))

  -- the same of those that are written
  pub joining_part : (old out : List ℕ) (r o : ℕ) → Joining f b n old out r o → k < r → take b (drop (k * b) (take o out)) ≡ f k
  joining_part old out r o s h =
      let i : o ≤ length out = omega (arith, s.put, s.room, s.long, mul-le-mul_right {m = r} b s.upto) in
      let l : k * b + b ≤ length (take o out) = rw (length-take-le o out i) (omega (arith, s.put, row_fits k r b h)) in
      part_of_front (k * b) b (take o out) _ l ∙ ap (λ (x : List ℕ). take b (drop (k * b) x)) s.wrote.done
      ∙ joined_part (omega (arith, s.upto))

-- Rows of a elements each, of a list that has n of them
abbrev pub row_of : (List ℕ → List ℕ) → ℕ → List ℕ → ℕ → List ℕ
row_of f a xs r = f (take a (drop (r * a) xs))

abbrev pub EvenRow : (List ℕ → List ℕ) → ℕ → ℕ → Type 0
EvenRow f a b = (xs : List ℕ) → length xs ≡ a → length (f xs) ≡ b

module _ (f : List ℕ → List ℕ) (a b n : ℕ) (xs : List ℕ) (input : n * a ≤ length xs) where
  rows_even : EvenRow f a b → Even (row_of f a xs) b n
  rows_even even i h =
      even (take a (drop (i * a) xs)) (length-take-le a (drop (i * a) xs) (simp length-drop (omega (arith, row_fits i n a h))))

  pub per_row_length : EvenRow f a b → length (per_row f a n xs) ≡ n * b
  unfolding per_row
  per_row_length even = joined_length (row_of f a xs) b n (rows_even even)

  -- what stands at place k of row r
  pub per_row_at : EvenRow f a b → (r k : ℕ) → r < n → k < b → get_or (per_row f a n xs) (r * b + k) 0 ≡ get_or (row_of f a xs r) k 0
  unfolding per_row
  per_row_at even = joined_at (row_of f a xs) b n (rows_even even)

pub record Rowing (f : List ℕ → List ℕ) (a b n : ℕ) (xs old out : List ℕ) (r at o : ℕ) : Type 0 where
  pub taken : at ≡ r * a
  pub input : n * a ≤ length xs
  pub joins : Joining (row_of f a xs) b n old out r o

pub rowing_none : (f : List ℕ → List ℕ) (a b n : ℕ) (xs out : List ℕ) → n * a ≤ length xs → n * b ≤ length out
    → Rowing f a b n xs out out 0 0 0
rowing_none f a b n xs out h k =
    record { taken = sym (zero-mul a); input = h; joins = joining_none (row_of f a xs) b n out k }

module _ (f : List ℕ → List ℕ) (a b n : ℕ) (xs old out : List ℕ) (r at o : ℕ) (s : Rowing f a b n xs old out r at o) where
  module _ (h : r < n) where
    -- the next row lies in the input, and what it gives in the buffer
    pub rowing_in : at + a ≤ length xs
    rowing_in = omega (arith, s.taken, s.input, row_fits r n a h)

    pub rowing_out : o + b ≤ length out
    rowing_out = joining_fits (row_of f a xs) b n old out r o s.joins h

    -- the same as sums that fit a word
    pub rowing_in_fits : length xs < 2 ^ 64 → Fits w64 (at + a)
    rowing_in_fits l = record { fits = omega (arith, rowing_in) }

    pub rowing_out_fits : length old < 2 ^ 64 → Fits w64 (o + b)
    rowing_out_fits l = record { fits = omega (arith, rowing_out, s.joins.long) }

    pub rowing_more : (ys : List ℕ) → ys ≡ f (mid_of at (at + a - at) xs) → length ys ≡ b
        → Rowing f a b n xs old (put_mid o (o + b - o) out ys) (r + 1) (at + a) (o + b)
    rowing_more ys e l =
        let k : at + a - at ≡ a = omega arith in
        let y : ys ≡ row_of f a xs r = e ∙ rw (k, s.taken) in
        record {
          taken = omega (arith, s.taken, next_row r a);
          input = s.input;
          joins = joining_more (row_of f a xs) b n old out r o s.joins h ys y l;
        }

  pub rowing_all : n ≤ r → EvenRow f a b → out ≡ overlay (per_row f a n xs) old
  unfolding per_row
  rowing_all h even = joining_all (row_of f a xs) b n old out r o s.joins h (rows_even f a b n xs s.input even)

pub ruleset rows = (rowing_none, rowing_in, rowing_out, rowing_in_fits, rowing_out_fits, rowing_more, rowing_all, rules)
