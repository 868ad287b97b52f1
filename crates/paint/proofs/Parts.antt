-- What is put into a segment's visible part: rows of its pixels, or rows of zeros.
use Prim.Native.Nat.{ℕ, ◌+◌, ◌-◌, ◌*◌, ◌/◌, ◌%◌, ◌<◌, ◌≤◌}
use mathlib.Core.Path.{◌≡◌, sym, ap, ◌∙◌}
use mathlib.Core.Bool.{Bool, true, false}
use mathlib.Core.List.{List, []}
use native.Mathlib.Omega.{arith}
use native.Mathlib.Nat.{div-add-mod', div-lt_iff_lt-mul, mod-lt, mul-le-mul, mul-le-mul_left, mul-le-mul_right}
use borrow.Author.Rules.{rules}
use mir.Syntax.{w64}
use mir.Val.{Fits}
use lib.ListN.{length, get_or}
use Rattle.lists.specs.Lists.{pick, lesser, spread}
use Rattle.lists.proofs.Lesser.{lesser_min}
use Rattle.lists.proofs.Rows.{joined_at, per_row_at}
use Rattle.head.specs.Heads.{Head, planes_of, bytes_of}
use Rattle.head.proofs.Heads.{bytes_some, bytes_most}
use Rattle.geometry.specs.Geometry.{most_side, rows_of}
use Rattle.geometry.proofs.Cutting.{below_rows}
use Rattle.picture.specs.declared.Format.{Format}
use Rattle.picture.specs.declared.Visible.{Visible}
use Rattle.picture.specs.Picture.{rows_in, needed_of, painted}
use Rattle.picture.specs.Inner.{Valid, top_of, visible_of}
use Rattle.picture.proofs.Placing.{columns_are, rows_are, visible_inside, pitch_inside, pitch_fits}
use Rattle.pixel.specs.Luv.{pixel_at, row_pixels, row_shown, pixels}
use Rattle.luv.specs.Inner.{Scatterable}
use Rattle.luv.proofs.Pixels.{rows_even}
use Rattle.pixel.proofs.Rows.{row_length, even_pixels}
use Rattle.clearing.specs.Inner.{zero_row, Clearable}
use Rattle.clearing.proofs.ClearedRows.{row_long, row_zero}
use Rattle.paint.specs.Paint.{pixels_of}
use Rattle.picture.proofs.Painted.{spread_paints}

-- a row's first pixels are the front of all its pixels
row_front : (head : Head) (w m n : ℕ) (row : List ℕ) (j : ℕ) → m ≤ n → j < bytes_of head * m
    → get_or (row_pixels head w m row) j 0 ≡ get_or (row_pixels head w n row) j 0
unfolding row_pixels
row_front head w m n row j h l =
    let b = bytes_of head in
    let e : j / b * b + j % b ≡ j = div-add-mod' j b in
    let c : j / b < m = (div-lt_iff_lt-mul {k = b} {x = j} {y = m} (bytes_some head)).1 (omega arith) in
    let at : (p : ℕ) → j / b < p → get_or (row_pixels head w p row) j 0 ≡ get_or (pixel_at head w row (j / b)) (j % b) 0 =
    λ p i. ap (λ (m : ℕ). get_or (row_pixels head w p row) m 0) (sym e)
    ∙ joined_at (pixel_at head w row) b p (even_pixels head w row p) (j / b) (j % b) i (mod-lt j (bytes_some head)) in
    at m c ∙ sym (at n (omega arith))

-- a segment has the rows that it shows
rows_had : (f : Format) (k : ℕ) → (visible_of f k).rows ≤ rows_in f k
unfolding visible_of rows_of
rows_had f k = by f.tiled
  where
    below : ℕ
    below = f.height - top_of f k

    by : (t : Bool) → lesser below f.block_height ≤ pick t f.block_height (lesser below f.block_height)
    by true = omega (arith, lesser_min below f.block_height)
    by false = omega arith

-- the bytes that a segment's packets fill are the planes of its rows
module _ (f : Format) (k planes : ℕ) (whole : needed_of f k ≤ planes) where
  rows_whole : rows_in f k * (planes_of f.mono * f.block_width) ≤ planes
  rows_whole = omega arith

  visible_scatters : (out : ℕ) → Valid f → f.output ≤ out
      → Scatterable f.mono f.block_width (visible_of f k).columns (visible_of f k).rows (visible_of f k).first (bytes_of f.mono * f.width) planes out
  visible_scatters out valid room =
      record {
        columns = omega (arith, columns_are f k);
        planes_in = omega (arith, rows_whole, mul-le-mul_right (planes_of f.mono * f.block_width) (rows_had f k));
        rows_in = λ r h. omega (arith, visible_inside f k valid r h);
      }

-- byte j of a row that a segment shows is that byte of the row's pixels
row_shown_lem : (f : Format) (k : ℕ) (planes : List ℕ) → needed_of f k ≤ length planes
    → (r j : ℕ) → r < (visible_of f k).rows → j < bytes_of f.mono * (visible_of f k).columns
    → get_or (row_shown f.mono f.block_width (visible_of f k).columns planes r) j 0
    ≡ get_or (pixels_of f k planes) (r * (bytes_of f.mono * f.block_width) + j) 0
unfolding pixels
row_shown_lem f k planes whole r j h l =
    let head = f.mono in
    let bw = f.block_width in
    let c : (visible_of f k).columns ≤ bw = omega (arith, columns_are f k) in
    let i = below_rows f.tiled f.height f.block_height f.across k r (omega (arith, rows_are f k)) (omega (arith, rows_are f k)) in
    row_front head bw (visible_of f k).columns bw _ j c l
    ∙ sym (per_row_at (row_pixels head bw bw) (planes_of head * bw) (bytes_of head * bw) (rows_in f k) planes (rows_whole f k (length planes) whole)
    (rows_even head bw) r j i (omega (arith, mul-le-mul_left (bytes_of head) c)))

-- the visible part of a segment, and the bytes of a pixel, as the code computed them
module _
    (f : Format)
    (k : ℕ)
    (old : List ℕ)
    (valid : Valid f)
    (room : f.output ≤ length old)
    (v : Visible)
    (e : v ≡ visible_of f k)
    (b : ℕ)
    (eb : b ≡ bytes_of f.mono) where
  -- its pixels
  module _ (planes : List ℕ) (whole : needed_of f k ≤ length planes) where
    pub scatters : Scatterable f.mono f.block_width v.columns v.rows v.first (b * f.width) (length planes) (length old)
    scatters = rw (e, eb) (visible_scatters f k (length planes) whole (length old) valid room)

    pub pixels_paint : (out : List ℕ)
        → out ≡ spread (row_shown f.mono f.block_width v.columns planes) (b * f.width) 0 v.rows v.first old
        → out ≡ painted f k (pixels_of f k planes) old
    pixels_paint out q =
        (rw (e, eb) at q)
        ∙ spread_paints f k old (row_shown f.mono f.block_width (visible_of f k).columns planes) valid room (λ r h. row_length _ _ _ _)
        (pixels_of f k planes) (row_shown_lem f k planes whole)

  -- and zeros, as a byte that is not there is 0
  pub clears : Clearable (b * v.columns) v.rows v.first (b * f.width) (length old)
  clears = rw (e, eb) (record { pitch_in = omega (arith, pitch_inside f k valid); rows_in = λ r h. omega (arith, visible_inside f k valid r h) })

  pub zeros_paint : (out : List ℕ) → out ≡ spread (zero_row (b * v.columns)) (b * f.width) 0 v.rows v.first old → out ≡ painted f k [] old
  zeros_paint out q =
      let size = bytes_of f.mono * (visible_of f k).columns in
      (rw (e, eb) at q) ∙ spread_paints f k old (zero_row size) valid room (λ r h. row_long size r) [] (λ r j h l. row_zero size r j l)

-- a block's columns are few, whichever head's bytes each has
pub columns_fit : (f : Format) (k : ℕ) → Valid f → (v : Visible) → v ≡ visible_of f k → (head : Head) (b : ℕ) → b ≡ bytes_of head → Fits w64 (b * v.columns)
columns_fit f k valid v e head b eb =
    let low : (visible_of f k).columns ≤ most_side = omega (arith, columns_are f k, valid.block_width_allowed) in
    rw (e, eb) (record { fits = omega (arith, mul-le-mul {n₂ = 6} {m₂ = most_side} (bytes_most head) low) })

pub ruleset parts = (scatters, pixels_paint, columns_fit, pitch_fits, clears, zeros_paint, rules)
