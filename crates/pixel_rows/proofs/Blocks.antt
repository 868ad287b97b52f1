-- A block of pixels: L of each as one number, then four pixels at a time, by parts of the planes of a row.
use Prim.Native.Nat.{ℕ, ◌+◌, ◌-◌, ◌*◌, ◌/◌, ◌<◌, ◌≤◌}
use mathlib.Core.Path.{◌≡◌, refl, ◌∙◌}
use mathlib.Core.List.{List}
use native.Mathlib.Omega.{arith}
use native.Mathlib.Nat.{zero-add, add_assoc}
use borrow.Rule.Slice.PartMut.{mid_of, put_mid, mid_len}
use lib.ListN.{length, drop, get_or}
use lib.Seq.{get_or-take, get_or-drop}
use Rattle.lists.specs.Lists.{joined}
use Rattle.lists.proofs.Rows.{Even, Joining, joining_exactly}
use Rattle.head.specs.Heads.{colour_head}
use Rattle.pixel.specs.Luv.{pixel, pixel_at}
use Rattle.pixel.specs.Inner.{light_pixel}
use Rattle.pixel_rows.specs.Inner.{Lights, Fours, Apart, Block, Within, plane_pixel}
use Rattle.pixel_rows.proofs.Several.{joined_same, several_more, at_place}

-- a part of a list, by its place in the whole
in_part : (xs : List ℕ) (a n k : ℕ) → k < n → get_or (mid_of a (a + n - a) xs) k 0 ≡ get_or xs (a + k) 0
in_part xs a n k h =
    let e : a + n - a ≡ n = omega arith in
    rw e (get_or-take n (drop a xs) k 0 h ∙ get_or-drop a xs k 0)

part_long : (xs : List ℕ) (a n : ℕ) → a + n ≤ length xs → length (mid_of a (a + n - a) xs) ≡ n
part_long xs a n h = mid_len a (a + n) xs h ∙ omega arith

even_lights : (lights us vs : List ℕ) (n : ℕ) → Even (light_pixel lights us vs) 6 n
unfolding light_pixel pixel
even_lights lights us vs n i h = refl

-- the loop over groups of four: i of them are made
pub record Quartering (lights us vs old d : List ℕ) (i : ℕ) : Type 0 where
  pub asked : Fours (length lights) (length us) (length vs) (length old)
  pub joins : Joining (light_pixel lights us vs) 6 (length us) old d (4 * i) (24 * i)

-- four of the pixels, by parts of what they come from
four_same : (lights us vs : List ℕ) (k j : ℕ) → j < 4
    → light_pixel (mid_of k (k + 4 - k) lights) (mid_of k (k + 4 - k) us) (mid_of k (k + 4 - k) vs) (0 + j) ≡ light_pixel lights us vs (k + j)
unfolding light_pixel
four_same lights us vs k j t = rw (zero-add j, in_part lights k 4 j t, in_part us k 4 j t, in_part vs k 4 j t)

module _ (lights us vs old d : List ℕ) (i : ℕ) (s : Quartering lights us vs old d i) where
  pub quartering_more : i < length us / 4 → (ys : List ℕ)
      → ys ≡ joined
      (light_pixel (mid_of (4 * i) (4 * i + 4 - 4 * i) lights) (mid_of (4 * i) (4 * i + 4 - 4 * i) us) (mid_of (4 * i) (4 * i + 4 - 4 * i) vs))
      0
      4
      → Quartering lights us vs old (put_mid (24 * i) (24 * i + 24 - 24 * i) d ys) (i + 1)
  quartering_more h ys e =
      let y : ys ≡ joined (light_pixel lights us vs) (4 * i) 4 = e ∙ joined_same _ (light_pixel lights us vs) 0 (4 * i) 4 (four_same lights us vs (4 * i)) in
      let j = several_more (light_pixel lights us vs) 6 (length us) (even_lights _ _ _ _) old d (4 * i) (24 * i) s.joins 4 (omega arith) ys y in
      record { asked = s.asked; joins = at_place _ _ _ _ _ _ _ _ _ j (omega arith) (omega arith) }

  pub quartering_all : length us / 4 ≤ i → d ≡ joined (light_pixel lights us vs) 0 (length us)
  quartering_all h =
      joining_exactly (light_pixel lights us vs) 6 (length us) old d (4 * i) (24 * i) s.joins (omega (arith, s.asked.by_four)) (even_lights _ _ _ _)
      (omega (arith, s.asked.exact))

-- pixels by L as numbers are those by its two bytes
pub lit_pixels : (highs lows us vs lights d : List ℕ) (m n : ℕ) → Lights highs lows lights m → m ≡ n → d ≡ joined (light_pixel lights us vs) 0 n
    → d ≡ joined (plane_pixel highs lows us vs) 0 n
unfolding light_pixel plane_pixel
lit_pixels highs lows us vs lights d m n p q e = e ∙ joined_same (light_pixel lights us vs) (plane_pixel highs lows us vs) 0 0 n same
  where
    same : (j : ℕ) → j < n → light_pixel lights us vs (0 + j) ≡ plane_pixel highs lows us vs (0 + j)
    same j t = rw (zero-add j, p.high j (omega arith), p.low j (omega arith))

-- what a block asks for, by parts of the planes of a row
pub parts_asked : (w i n : ℕ) (row : List ℕ) (d : ℕ) → Within w i n (length row) d → Block n
    → (highs lows us vs : ℕ) → highs + n ≤ length row → lows + n ≤ length row → us + n ≤ length row → vs + n ≤ length row
    → Apart (length (mid_of highs (highs + n - highs) row)) (length (mid_of lows (lows + n - lows) row)) (length (mid_of us (us + n - us) row))
    (length (mid_of vs (vs + n - vs) row))
    d
parts_asked w i n row d a b highs lows us vs hh hl hu hv =
    rw (part_long row us n hu) (
    record {
      block = b;
      high = part_long row highs n hh;
      low = part_long row lows n hl;
      v = part_long row vs n hv;
      exact = a.exact;
    }
    )

-- and its pixels, where the parts are those of the four planes
module _ (w i n : ℕ) (row : List ℕ) (d : ℕ) (a : Within w i n (length row) d) where
  us_long : length (mid_of (2 * w + i) (2 * w + i + n - (2 * w + i)) row) ≡ n
  us_long = part_long row (2 * w + i) n (omega (arith, a.planes_in, a.columns))

  part_same : (j : ℕ) → j < n
      → plane_pixel (mid_of i (i + n - i) row) (mid_of (w + i) (w + i + n - (w + i)) row) (mid_of (2 * w + i) (2 * w + i + n - (2 * w + i)) row)
      (mid_of (3 * w + i) (3 * w + i + n - (3 * w + i)) row)
      (0 + j)
      ≡ pixel_at colour_head w row (i + j)
  unfolding plane_pixel pixel_at
  part_same j h =
      let z : 0 * w + (i + j) ≡ i + j = omega arith in
      let o : 1 * w + (i + j) ≡ w + i + j = omega arith in
      rw (
        zero-add j,
        in_part row i n j h,
        in_part row (w + i) n j h,
        in_part row (2 * w + i) n j h,
        in_part row (3 * w + i) n j h,
        z,
        o,
        add_assoc (2 * w) i j,
        add_assoc (3 * w) i j,
      )

  pub parts_are : (ys : List ℕ)
      → ys ≡ joined
      (plane_pixel (mid_of i (i + n - i) row) (mid_of (w + i) (w + i + n - (w + i)) row) (mid_of (2 * w + i) (2 * w + i + n - (2 * w + i)) row)
      (mid_of (3 * w + i) (3 * w + i + n - (3 * w + i)) row))
      0
      (length (mid_of (2 * w + i) (2 * w + i + n - (2 * w + i)) row))
      → ys ≡ joined (pixel_at colour_head w row) i n
  parts_are ys e = (rw us_long at e) ∙ joined_same _ (pixel_at colour_head w row) 0 i n part_same
