-- The three demands, each as one record whose fields are its sentences, over every call of either reading. What they speak of is defined in
-- Strict.antt, StrictCall.antt and Patchy.antt beside this file; proofs/Demands.antt inhabits each record once.
use Rattle.std.specs.Prelude.{ℕ, ◌*◌, ◌<◌, ◌≤◌, ◌≡◌, ◌↔◌, ◌⊎◌, List, length, take, get_or, replicate, Ok, Err}
use Rattle.checks.specs.Numbers.{number_of, invalid, leaving}
use Rattle.checks.specs.declared.Refusal.{Refusal}
use Rattle.checks.specs.Exact.{RefusedAt}
use Rattle.inspection.specs.Inspection.{inspect_checks}
use Rattle.decoding.specs.Strict.{decode_checks, both_checks}
use Rattle.handle.specs.declared.Handle.{Handle}
use Rattle.handle.specs.Handle.{inspected_with}
use Rattle.patchy.specs.Patchy.{reading_number}
use Rattle.patchy.specs.declared.Sizes.{Sizes}
use Rattle.plain_patchy.specs.Read.{PatchyRead}
use Rattle.plain_patchy.specs.declared.Answer.{Answer}
use Rattle.chelmesut.specs.Face.{ReadPatchy}
use Rattle.promises.specs.Strict.{Good, Given, Inspects, Decodes, ReadsPage, Shows}
use Rattle.promises.specs.StrictCall.{StrictCall, whole_view, inspect_answer, decode_answer, decode_output, decode_scratch}
use Rattle.promises.specs.StrictCall as strict
use Rattle.promises.specs.Patchy.{Call, view, page_format, checks, Answered, RefusedWith, Reads, MarkedGood, defined_pixel, PixelOf, pixel_bytes, segment_here, place_here, ShowsPixel, Blank, Alike, SameOutcome}
use Rattle.promises.specs.Patchy as patchy

-- a number of a refusal (rule 1.1), up to the greatest that a reading gives
abbrev pub Numbered : ℕ → ℕ → Type 0
Numbered greatest e = (0 < e) × (e ≤ greatest)

-- Any file, map, page, limits, budget and buffers get an answer. Bad input is refused by number in a fixed order; budget and every buffer after
-- each refusal are fixed (rules 1.1 to 1.4).
pub record Demand1 : Type 0 where
  -- a reading with a delivery map is answered with a picture, or refused with one of the numbers 1 to 9
  pub reading_answers : (c : Call) → ((s : Sizes) × (w : ℕ) × Answered c s w) ⊎ ((e : Refusal) × (w : ℕ) × (RefusedWith c e w × Numbered 9 (number_of e)))
  -- the number and the units left are those of the first of its checks, in their order, that fails: what was charged before it stays taken, and
  -- the check itself takes nothing
  pub reading_refused : (c : Call) (e : Refusal) (w : ℕ) → RefusedWith c e w ↔ RefusedAt (checks c) c.units e w
  -- output and scratch are then as they were, and every quality byte is 0
  pub reading_leaves : (c : Call) (e : Refusal) (w : ℕ) → RefusedWith c e w
      → (patchy.output_then c ≡ c.output) × ((patchy.scratch_then c ≡ c.scratch) × (patchy.quality_then c ≡ replicate (length c.quality) 0))
  -- the same of strict inspection, which has no buffers, with the numbers 1 to 7
  pub inspection_answers : (c : StrictCall)
      → ((h : Handle) × (w : ℕ) × (inspect_answer c ≡ Ok (inspected_with h w)))
      ⊎ ((e : Refusal) × (w : ℕ) × ((inspect_answer c ≡ Err (leaving e w)) × Numbered 7 (number_of e)))
  pub inspection_refused : (c : StrictCall) (e : Refusal) (w : ℕ)
      → (inspect_answer c ≡ Err (leaving e w)) ↔ RefusedAt (inspect_checks (whole_view c) c.page c.limits) c.units e w
  -- of decode of whatever handle: 2 exactly where the handle is not given, then 6 and 7
  pub decode_answers : (c : StrictCall) (h : Handle)
      → ((w : ℕ) × (decode_answer c h ≡ Ok w)) ⊎ ((e : Refusal) × (w : ℕ) × ((decode_answer c h ≡ Err (leaving e w)) × Numbered 7 (number_of e)))
  pub decode_refused : (c : StrictCall) (h : Handle) (e : Refusal) (w : ℕ)
      → (decode_answer c h ≡ Err (leaving e w))
      ↔ RefusedAt (decode_checks (whole_view c) c.limits h (length c.output) (length c.scratch)) c.units e w
  pub decode_invalid : (c : StrictCall) (h : Handle) (w : ℕ)
      → (decode_answer c h ≡ Err (leaving invalid w)) ↔ ((Given (whole_view c) c.limits h → ⊥) × (w ≡ c.units))
  pub decode_leaves : (c : StrictCall) (h : Handle) (e : Refusal) (w : ℕ) → decode_answer c h ≡ Err (leaving e w)
      → (decode_output c h ≡ c.output) × (decode_scratch c h ≡ c.scratch)
  -- and of inspection and decode in one call
  pub read_answers : (c : StrictCall)
      → ((h : Handle) × (w : ℕ) × (strict.answer c ≡ Ok (inspected_with h w)))
      ⊎ ((e : Refusal) × (w : ℕ) × ((strict.answer c ≡ Err (leaving e w)) × Numbered 7 (number_of e)))
  pub read_refused : (c : StrictCall) (e : Refusal) (w : ℕ)
      → (strict.answer c ≡ Err (leaving e w))
      ↔ RefusedAt (both_checks (whole_view c) c.page c.limits (length c.output) (length c.scratch)) c.units e w
  pub read_leaves : (c : StrictCall) (e : Refusal) (w : ℕ) → strict.answer c ≡ Err (leaving e w)
      → (strict.output_then c ≡ c.output) × (strict.scratch_then c ≡ c.scratch)

-- A picture is accepted exactly when it meets the rules on profile, limits and segments and the budget covers the exact charge (rules 5.4, 7.1, 7.4, 7.6
-- and 8.9). Each output byte then equals the LogLuv definition (rules 6.1 to 6.5 and 7.5).
pub record Demand2 : Type 0 where
  -- inspection gives a handle and leaves w units exactly when the picture is fine, the charge is covered, the handle is the one defined, and no more
  -- is taken
  pub inspection_accepts : (c : StrictCall) (h : Handle) (w : ℕ)
      → (inspect_answer c ≡ Ok (inspected_with h w)) ↔ Inspects (whole_view c) c.page c.limits c.units w h
  -- decode passes and leaves w units exactly when its handle is given, the buffers hold the picture and scratch, and the sum of fees is covered; the
  -- picture is then in the output
  pub decode_accepts : (c : StrictCall) (h : Handle) (w : ℕ)
      → (decode_answer c h ≡ Ok w) ↔ Decodes (whole_view c) c.limits h (length c.output) (length c.scratch) c.units w
  pub decode_shows : (c : StrictCall) (h : Handle) (w : ℕ) → decode_answer c h ≡ Ok w
      → Shows (whole_view c) h c.output c.scratch (decode_output c h) (decode_scratch c h)
  -- the same of both in one call
  pub read_accepts : (c : StrictCall) (h : Handle) (w : ℕ)
      → (strict.answer c ≡ Ok (inspected_with h w))
      ↔ ReadsPage (whole_view c) c.page c.limits (length c.output) (length c.scratch) c.units w h
  pub read_shows : (c : StrictCall) (h : Handle) (w : ℕ) → strict.answer c ≡ Ok (inspected_with h w)
      → Shows (whole_view c) h c.output c.scratch (strict.output_then c) (strict.scratch_then c)
  -- a reading with a delivery map is answered with these sizes and leaves w units exactly when each of its tests holds and its charge is covered
  pub reading_accepts : (c : Call) (s : Sizes) (w : ℕ) → Answered c s w ↔ Reads c s w

-- Old data looks old. Bytes in blocks that did not come have no influence. In an answered reading a segment is good exactly when its entries and
-- stored bytes lie in the file and came and its packets are accepted; it then shows the defined pixels. One that isn't good shows zero bytes alone,
-- six per pixel of the colour head, which none of its good segments can show, and two of the monochrome head, where the quality byte alone tells
-- (rules 8.10, 8.6, 8.7 and 6.7; that it does: proofs/Witness.antt, mono_good_blank).
pub record Demand3 : Type 0 where
  -- two files of one length that agree in all blocks that came, read with one map, page, limits, budget and buffer lengths, get the same answer, budget
  -- left and, if answered, pixels and quality bytes, whatever the buffers held
  pub no_influence : (a b : Call) → Alike a b → SameOutcome a b
  -- in an answered reading a segment is marked good exactly when it is
  pub good_exactly : (c : Call) (s : Sizes) (w : ℕ) → Answered c s w → (k : ℕ) → k < s.segments → MarkedGood c k ↔ Good (view c) (page_format c) k
  -- it then shows the pixels that the file itself defines
  pub good_shows : (c : Call) (s : Sizes) (w : ℕ) → Answered c s w → (x y : ℕ) → PixelOf c s x y → MarkedGood c (segment_here c s x y)
      → ShowsPixel c s x y (defined_pixel c x y)
  -- one that isn't good shows zeros alone in each of its pixels
  pub others_blank : (c : Call) (s : Sizes) (w : ℕ) → Answered c s w → (x y : ℕ) → PixelOf c s x y → (MarkedGood c (segment_here c s x y) → ⊥)
      → Blank c s x y
  -- which no good segment of the colour head can show
  pub good_never_blank : (c : Call) (s : Sizes) (w : ℕ) → Answered c s w → s.channels ≡ 3 → (x y : ℕ) → PixelOf c s x y
      → MarkedGood c (segment_here c s x y) → Blank c s x y → ⊥

-- what a call at one of the two faces leaves of a reading with a delivery map: the number of its answer, the units left, the three buffers
pub record Outcome : Type 0 where
  pub number : ℕ
  pub units : ℕ
  pub output : List ℕ
  pub scratch : List ℕ
  pub quality : List ℕ

pub record Leaves (c : Call) (o : Outcome) : Type 0 where
  pub number_is : o.number ≡ reading_number (patchy.answer c)
  pub units_are : o.units ≡ patchy.left c
  pub output_is : o.output ≡ patchy.output_then c
  pub scratch_is : o.scratch ≡ patchy.scratch_then c
  pub quality_is : o.quality ≡ patchy.quality_then c

-- two outcomes are the same in all that demand 3 speaks of, the pixels of an answer of these sizes among them
pub record SameLeft (p q : Outcome) (c : Call) : Type 0 where
  pub one_number : p.number ≡ q.number
  pub one_budget : p.units ≡ q.units
  pub one_quality : p.quality ≡ q.quality
  pub one_picture : (s : Sizes) (w : ℕ) → Answered c s w → take (2 * s.channels * (s.width * s.height)) p.output
      ≡ take (2 * s.channels * (s.width * s.height)) q.output

-- Demand 3 of the C function and of the named form.
pub record Demand3AtFaces : Type 0 where
  -- each leaves what the call leaves
  pub c_function : (c : Call) (words words' : List ℕ) (o : Outcome)
      → ReadPatchy c.file c.page c.limits c.map c.units c.output c.scratch c.quality words
      o.number o.units o.output o.scratch o.quality words'
      → Leaves c o
  pub named_form : (c : Call) (answer : Answer) (o : Outcome)
      → PatchyRead c.file c.map c.page c.limits c.output c.scratch c.quality c.units
      answer o.units o.output o.scratch o.quality
      → answer.number ≡ o.number
      → Leaves c o
  -- so its number is 0 exactly if the reading is answered
  pub number_0 : (c : Call) (o : Outcome) → Leaves c o → (o.number ≡ 0) ↔ ((s : Sizes) × (w : ℕ) × Answered c s w)
  -- bytes that did not come have no influence on what two such calls leave, be they at one face or at both
  pub no_influence : (a b : Call) (p q : Outcome) → Alike a b → Leaves a p → Leaves b q → SameLeft p q b
  -- and the quality bytes and the pixels that are left mean what they mean in demand 3
  pub good_exactly : (c : Call) (o : Outcome) → Leaves c o → (s : Sizes) (w : ℕ) → Answered c s w → (k : ℕ) → k < s.segments
      → (get_or o.quality k 0 ≡ 1) ↔ Good (view c) (page_format c) k
  pub good_shows : (c : Call) (o : Outcome) → Leaves c o → (s : Sizes) (w : ℕ) → Answered c s w
      → (x y b : ℕ) → PixelOf c s x y → b < pixel_bytes c s → get_or o.quality (segment_here c s x y) 0 ≡ 1
      → get_or o.output (place_here c s x y b) 0 ≡ get_or (defined_pixel c x y) b 0
  pub others_blank : (c : Call) (o : Outcome) → Leaves c o → (s : Sizes) (w : ℕ) → Answered c s w
      → (x y b : ℕ) → PixelOf c s x y → b < pixel_bytes c s → (get_or o.quality (segment_here c s x y) 0 ≡ 1 → ⊥)
      → get_or o.output (place_here c s x y b) 0 ≡ 0
  pub good_never_blank : (c : Call) (o : Outcome) → Leaves c o → (s : Sizes) (w : ℕ) → Answered c s w → s.channels ≡ 3
      → (x y : ℕ) → PixelOf c s x y → get_or o.quality (segment_here c s x y) 0 ≡ 1
      → ((b : ℕ) → b < pixel_bytes c s → get_or o.output (place_here c s x y b) 0 ≡ 0) → ⊥
