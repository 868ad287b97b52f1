-- A segment's visible rows spread into an output are the segment painted there.
use Prim.Native.Nat.{ℕ, ◌+◌, ◌*◌, ◌/◌, ◌%◌, ◌<◌, ◌≤◌}
use mathlib.Core.Path.{◌≡◌, refl, sym, ap, ◌∙◌}
use mathlib.Core.Bool.{Bool, true, false, ◌&&◌}
use mathlib.Core.List.{List}
use native.Mathlib.Omega.{arith}
use native.Mathlib.Nat.{div-add-mod', div-lt_iff_lt-mul, mod-lt, mul-le-mul_left}
use lib.Arith.{digits_div, digits_mod}
use lib.Dec.{ltb, eqb}
use lib.ListN.{length, get_or}
use lib.Seq.{ext_get_or}
use borrow.Author.Tests.{ltb-true, ltb-false, eqb-true, eqb-false}
use Rattle.lists.specs.Lists.{pick, spread}
use Rattle.lists.proofs.Overlay.{length_span, get_d_tabulate}
use Rattle.lists.proofs.Rows.{Even}
use Rattle.lists.proofs.Counters.{grouped_in}
use Rattle.lists.proofs.Spread.{Inside, spread_length, spread_in, spread_out}
use Rattle.head.specs.Heads.{bytes_of}
use Rattle.head.proofs.Heads.{bytes_some}
use Rattle.geometry.proofs.Cutting.{segment_row, segment_column}
use Rattle.picture.specs.declared.Format.{Format}
use Rattle.picture.specs.Picture.{segment_at, local_at, painted}
use Rattle.picture.specs.Inner.{Valid, left_of, top_of, visible_of}
use Rattle.picture.proofs.Placing.{columns_are, rows_are, first_is, visible_inside}
use Rattle.picture.proofs.Pictures.{pixel_segment_lem, pixel_local, pixel_in}

-- output byte q is byte j of row r of the visible part of segment k
record Visibly (f : Format) (k q r j : ℕ) : Type 0 where
  row : r < (visible_of f k).rows
  byte : j < bytes_of f.mono * (visible_of f k).columns
  place : q ≡ (visible_of f k).first + r * (bytes_of f.mono * f.width) + j

-- such a byte is one of the picture's, of that segment, at that place there
module _ (f : Format) (k q r j : ℕ) (s : Visibly f k q r j) where
  abbrev b : ℕ
  b = bytes_of f.mono

  abbrev column_of : ℕ
  column_of = left_of f k + j / b

  abbrev row_of : ℕ
  row_of = top_of f k + r

  column_shown : j / b < (visible_of f k).columns
  column_shown = (div-lt_iff_lt-mul {k = b} {x = j} {y = (visible_of f k).columns} (bytes_some f.mono)).1 (omega (arith, s.byte))

  column_in : column_of < f.width
  column_in = omega (arith, columns_are f k, column_shown)

  byte_in : j % b < b
  byte_in = mod-lt j (bytes_some f.mono)

  pixel_place : q ≡ (row_of * f.width + column_of) * b + j % b
  pixel_place = omega (arith, first_is f k, s.place, div-add-mod' j b)

  visibly_output : Valid f → q < f.output
  visibly_output valid =
      rw pixel_place (pixel_in f column_of row_of (j % b) column_in byte_in valid (omega (arith, rows_are f k, s.row)))

  column_below : j / b < f.block_width
  column_below = omega (arith, columns_are f k, column_shown)

  row_below : r < f.block_height
  row_below = omega (arith, rows_are f k, s.row)

  visibly_segment : segment_at f q ≡ k
  visibly_segment =
      ap (segment_at f) pixel_place ∙ pixel_segment_lem f column_of row_of (j % b) column_in byte_in
      ∙ rw (digits_div (k / f.across) row_below, digits_div (k % f.across) column_below) (div-add-mod' k f.across)

  visibly_local : local_at f q ≡ r * (b * f.block_width) + j
  visibly_local =
      ap (local_at f) pixel_place ∙ pixel_local f column_of row_of (j % b) column_in byte_in
      ∙ rw (digits_mod (k / f.across) row_below, digits_mod (k % f.across) column_below) (omega (arith, div-add-mod' j b))

-- and each byte of the picture that is of that segment is such a byte
module _ (f : Format) (k q : ℕ) (valid : Valid f) (h : q < f.output) (e : segment_at f q ≡ k) where
  abbrev size : ℕ
  size = bytes_of f.mono

  abbrev w : ℕ
  w = f.width

  abbrev bw : ℕ
  bw = f.block_width

  abbrev bh : ℕ
  bh = f.block_height

  abbrev y : ℕ
  y = q / size / w

  abbrev x : ℕ
  x = q / size % w

  down : k / f.across ≡ y / bh
  down = rw (← e) (segment_row size w bw bh f.across q valid.some_width valid.some_block_width valid.across_is)

  along : k % f.across ≡ x / bw
  along = rw (← e) (segment_column size w bw bh f.across q valid.some_width valid.some_block_width valid.across_is)

  tall : y < f.height
  tall =
      let pixel : q / size < f.height * w =
      (div-lt_iff_lt-mul {k = size} {x = q} {y = f.height * w} (bytes_some f.mono)).1 (omega (arith, valid.output_is)) in
      (div-lt_iff_lt-mul {k = w} {x = q / size} {y = f.height} valid.some_width).1 pixel

  column : x % bw < (visible_of f k).columns
  column = rw (columns_are f k, along) (omega (arith, div-add-mod' x bw, mod-lt x valid.some_block_width, mod-lt (q / size) valid.some_width))

  visibly : Visibly f k q (y % bh) (x % bw * size + q % size)
  visibly = record {
    row = rw (rows_are f k, down) (omega (arith, tall, div-add-mod' y bh, mod-lt y valid.some_block_height));
    byte = grouped_in (visible_of f k).columns size (x % bw) (q % size) column (mod-lt q (bytes_some f.mono));
    place = rw (first_is f k, down, along)
        (omega (
          arith,
          div-add-mod' q size,
          ap (λ (m : ℕ). m * size) (div-add-mod' (q / size) w),
          ap (λ (m : ℕ). m * w * size) (div-add-mod' y bh),
          ap (λ (m : ℕ). m * size) (div-add-mod' x bw),
        ));
  }

-- a painted output by its bytes
module _ (f : Format) (k : ℕ) (new old : List ℕ) where
  pub painted_length : length (painted f k new old) ≡ length old
  unfolding painted
  painted_length = length_span _ 0 (length old)

  pub painted_at : (q : ℕ) → q < length old
      → get_or (painted f k new old) q 0 ≡ pick (ltb q f.output && eqb (segment_at f q) k) (get_or new (local_at f q) 0) (get_or old q 0)
  unfolding painted
  painted_at q h =
      get_d_tabulate (λ p. pick (ltb p f.output && eqb (segment_at f p) k) (get_or new (local_at f p) 0) (get_or old p 0)) (length old) q h

-- rows that show the segment's bytes, spread over its visible part, paint it
module _
    (f : Format)
    (k : ℕ)
    (old : List ℕ)
    (g : ℕ → List ℕ)
    (valid : Valid f)
    (room : f.output ≤ length old)
    (even : Even g (bytes_of f.mono * (visible_of f k).columns) (visible_of f k).rows) where
  inside : Inside (bytes_of f.mono * (visible_of f k).columns) (bytes_of f.mono * f.width) (visible_of f k).rows (visible_of f k).first old
  inside r h = omega (arith, visible_inside f k valid r h)

  pub spread_paints : (new : List ℕ)
      → ((r j : ℕ) → r < (visible_of f k).rows → j < bytes_of f.mono * (visible_of f k).columns
      → get_or (g r) j 0 ≡ get_or new (r * (bytes_of f.mono * f.block_width) + j) 0)
      → spread g (bytes_of f.mono * f.width) 0 (visible_of f k).rows (visible_of f k).first old ≡ painted f k new old
  spread_paints new same =
      ext_get_or 0 out _ (long ∙ sym (painted_length f k new old))
      (λ q h. by q (ltb q f.output) (eqb (segment_at f q) k) refl refl ∙ sym (painted_at f k new old q (rw long at h)))
    where
      out : List ℕ
      out = spread g (bytes_of f.mono * f.width) 0 (visible_of f k).rows (visible_of f k).first old

      long : length out ≡ length old
      long = spread_length g _ (bytes_of f.mono * f.width) _ _ old even inside

      tight : bytes_of f.mono * (visible_of f k).columns ≤ bytes_of f.mono * f.width
      tight = mul-le-mul_left (bytes_of f.mono) (omega (arith, columns_are f k))

      stays : (q : ℕ) → (q < f.output → segment_at f q ≡ k → ⊥) → get_or out q 0 ≡ get_or old q 0
      stays q other =
          spread_out g _ (bytes_of f.mono * f.width) _ _ old even inside q
          (λ r j h l e. let s : Visibly f k q r j = record { row = h; byte = l; place = e } in
          other (visibly_output f k q r j s valid) (visibly_segment f k q r j s))

      by : (q : ℕ) (s t : Bool) → ltb q f.output ≡ s → eqb (segment_at f q) k ≡ t → get_or out q 0 ≡ pick (s && t) (get_or new (local_at f q) 0) (get_or old q 0)
      by q true true d e =
          let s = visibly f k q valid (ltb-true q f.output d) (eqb-true (segment_at f q) k e) in
          ap (λ (m : ℕ). get_or out m 0) s.place ∙ spread_in g _ (bytes_of f.mono * f.width) _ _ old even inside tight _ _ s.row s.byte
          ∙ same _ _ s.row s.byte ∙ ap (λ (m : ℕ). get_or new m 0) (sym (visibly_local f k q _ _ s))
      by q true false d e = stays q (λ a. eqb-false (segment_at f q) k e)
      by q false t d e = stays q (λ a b. omega (arith, ltb-false))
