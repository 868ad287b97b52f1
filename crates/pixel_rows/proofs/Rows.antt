-- A row of either head, pixel by pixel and block by block.
use Prim.Native.Nat.{ℕ, ◌+◌, ◌-◌, ◌*◌, ◌<◌, ◌≤◌}
use mathlib.Core.Path.{◌≡◌, refl, ap, ◌∙◌}
use mathlib.Core.List.{List, ◌++◌, append-nil}
use native.Mathlib.Omega.{arith}
use native.Mathlib.Nat.{zero-add, add_assoc}
use borrow.Author.Rules.{rules}
use borrow.Rule.Slice.PartMut.{put_mid}
use lib.ListN.{length, drop, get_or}
use Rattle.lists.specs.Lists.{joined, overlay}
use Rattle.lists.proofs.Rows.{Even, Joining, joining_none, joining_more, joining_exactly}
use Rattle.head.specs.Heads.{Head, colour_head, mono_head}
use Rattle.pixel.specs.Luv.{pixel, mono_pixel, pixel_at, row_pixels}
use Rattle.pixel.proofs.Rows.{pixel_length, even_pixels}
use Rattle.pixel_rows.specs.Inner.{Convertible, Within, Front}
use Rattle.pixel_rows.proofs.Several.{joined_same, several_length, several_more, several_last, at_place}

-- the loop over a row of the monochrome head: i pixels are joined
abbrev pub Monos : ℕ → ℕ → List ℕ → List ℕ → List ℕ → ℕ → Type 0
Monos w n row old out i = Joining (pixel_at mono_head w row) 2 n old out i (2 * i)

pub monos_none : (w n : ℕ) (row out : List ℕ) → length out ≡ 2 * n → Monos w n row out out 0
monos_none w n row out h = joining_none (pixel_at mono_head w row) 2 n out (omega arith)

module _ (w n : ℕ) (row old out : List ℕ) (i : ℕ) (s : Monos w n row old out i) where
  mono_is : (ys : List ℕ) → ys ≡ mono_pixel (get_or row i 0) (get_or row (w + i) 0) → ys ≡ pixel_at mono_head w row i
  unfolding pixel_at
  mono_is ys e =
      let z : 0 * w + i ≡ i = omega arith in
      let f : 1 * w + i ≡ w + i = omega arith in
      rw (z, f) e

  pub monos_more : (ys : List ℕ) → i < n → ys ≡ mono_pixel (get_or row i 0) (get_or row (w + i) 0)
      → Monos w n row old (put_mid (2 * i) (2 * i + 2 - 2 * i) out ys) (i + 1)
  monos_more ys h e =
      let j = joining_more (pixel_at mono_head w row) 2 n old out i (2 * i) s h ys (mono_is ys e) (ap length (mono_is ys e) ∙ pixel_length mono_head w row i) in
      at_place _ _ _ _ _ _ _ _ _ j refl (omega arith)

  pub monos_all : n ≤ i → length old ≡ 2 * n → out ≡ row_pixels mono_head w n row
  unfolding row_pixels
  monos_all h l = joining_exactly (pixel_at mono_head w row) 2 n old out i (2 * i) s h (even_pixels mono_head w row n) (omega arith)

-- n pixels of the colour head from the i-th on: k of them are joined
pub record Colours (w : ℕ) (row : List ℕ) (i n : ℕ) (old out : List ℕ) (k : ℕ) : Type 0 where
  pub asked : Within w i n (length row) (length old)
  pub joins : Joining (λ j. pixel_at colour_head w row (i + j)) 6 n old out k (6 * k)

pub colours_none : (w : ℕ) (row : List ℕ) (i n : ℕ) (out : List ℕ) → Within w i n (length row) (length out) → Colours w row i n out out 0
colours_none w row i n out a = record { asked = a; joins = joining_none (λ j. pixel_at colour_head w row (i + j)) 6 n out (omega (arith, a.exact)) }

module _ (w : ℕ) (row : List ℕ) (i n : ℕ) (old out : List ℕ) (k : ℕ) (s : Colours w row i n old out k) where
  even : Even (λ j. pixel_at colour_head w row (i + j)) 6 n
  even j h = pixel_length colour_head w row (i + j)

  size : length old ≡ n * 6
  size = omega (arith, s.asked.exact)

  -- counted from the start of the row
  later : (j m : ℕ) → j ≡ i + k → joined (pixel_at colour_head w row) j m ≡ joined (λ l. pixel_at colour_head w row (i + l)) k m
  later j m e = joined_same (pixel_at colour_head w row) (λ l. pixel_at colour_head w row (i + l)) j k m (λ l t. rw (e, add_assoc i k l))

  whole : joined (λ j. pixel_at colour_head w row (i + j)) 0 n ≡ joined (pixel_at colour_head w row) i n
  whole = joined_same (λ j. pixel_at colour_head w row (i + j)) (pixel_at colour_head w row) 0 i n (λ j t. rw (zero-add j))

  -- m more, of d bytes
  pub colours_more : (m d o k' j : ℕ) (ys : List ℕ) → k + m ≤ n → d ≡ m * 6 → o ≡ 6 * k → k' ≡ k + m → j ≡ i + k
      → ys ≡ joined (pixel_at colour_head w row) j m
      → Colours w row i n old (put_mid o (o + d - o) out ys) k'
  colours_more m d o k' j ys h d-is o-is k-is e y =
      let more = several_more (λ l. pixel_at colour_head w row (i + l)) 6 n even old out k (6 * k) s.joins m h ys (y ∙ later j m e) in
      rw (d-is, o-is) (record { asked = s.asked; joins = at_place _ _ _ _ _ _ _ _ _ more (omega arith) (omega arith) })

  -- one more
  pub single_more : (o : ℕ) (ys : List ℕ) → k < n → o ≡ 6 * k
      → ys ≡ pixel (get_or row (i + k) 0) (get_or row (w + (i + k)) 0) (get_or row (2 * w + (i + k)) 0) (get_or row (3 * w + (i + k)) 0)
      → Colours w row i n old (put_mid o (o + 6 - o) out ys) (k + 1)
  unfolding pixel_at joined
  single_more o ys h o-is e =
      let z : 0 * w + (i + k) ≡ i + k = omega arith in
      let f : 1 * w + (i + k) ≡ w + (i + k) = omega arith in
      colours_more 1 6 o (k + 1) (i + k) ys (omega arith) refl o-is refl refl (rw (append-nil, z, f) e)

  pub colours_all : n ≤ k → out ≡ joined (pixel_at colour_head w row) i n
  colours_all h = joining_exactly (λ j. pixel_at colour_head w row (i + j)) 6 n old out k (6 * k) s.joins h even size ∙ whole

  -- all that are left, at once
  pub colours_last : (o e j m : ℕ) (ys : List ℕ) → o ≡ 6 * k → e ≡ length out → j ≡ i + k → m ≡ n - k → ys ≡ joined (pixel_at colour_head w row) j m
      → put_mid o (e - o) out ys ≡ joined (pixel_at colour_head w row) i n
  colours_last o e j m ys o-is p q m-is y =
      rw o-is
      (several_last (λ l. pixel_at colour_head w row (i + l)) 6 n even old out k (6 * k) s.joins size e ys p (y ∙ rw m-is (later j (n - k) q)) ∙ whole)

-- fewer pixels than a block can have: the first m of them
put_front : (d : ℕ) (ys old : List ℕ) → length ys ≡ d → put_mid 0 (0 + d - 0) old ys ≡ overlay ys old
unfolding overlay
put_front d ys old l = let e : 0 + d - 0 ≡ length ys = omega arith in rw e

module _ (w i n : ℕ) (row old : List ℕ) where
  pub front_none : Front w i n row old old 0
  unfolding joined overlay
  front_none = record { upto = omega arith; made = refl }

  front_long : (m : ℕ) → m ≤ n → length (joined (pixel_at colour_head w row) i m) ≡ m * 6
  front_long m h = several_length (pixel_at colour_head w row) 6 (i + m) (even_pixels colour_head w row (i + m)) i m (omega arith)

  pub front_made : (m : ℕ) (ys : List ℕ) → m ≤ n → ys ≡ joined (pixel_at colour_head w row) i m → Front w i n row old (ys ++ drop (6 * m) old) m
  unfolding overlay
  front_made m ys h e = let l : length ys ≡ 6 * m = ap length e ∙ front_long m h ∙ omega arith in record { upto = h; made = rw (← e, l) }

  pub front_colours : Within w i n (length row) (length old) → (out : List ℕ) (m : ℕ) → Front w i n row old out m → Colours w row i n old out m
  front_colours a out m f =
      let ys = joined (pixel_at colour_head w row) i m in
      let none = colours_none w row i n old a in
      let c = colours_more w row i n old old 0 none m (m * 6) 0 m i ys (omega (arith, f.upto)) refl refl (omega arith) (omega arith) refl in
      rw (put_front (m * 6) ys old (front_long m f.upto), ← f.made) at c

-- what is asked of a row, and what it shows, where the head is known
module _ (head given : Head) (e : head ≡ given) (w n : ℕ) where
  pub asked_of : (planes out : ℕ) → Convertible head w n planes out → Convertible given w n planes out
  asked_of planes out a = rw e at a

  pub row_of : (row out : List ℕ) → out ≡ row_pixels given w n row → out ≡ row_pixels head w n row
  row_of row out q = rw e q

pub ruleset heads = (asked_of, row_of, rules)
