-- What is read of a file under a map is the file's own: the format of a page whose front part is fine, and the pixels of a good segment, are those of
-- the file seen whole, though other blocks are missing.
use Prim.Native.Nat.{ℕ, zero, suc, ◌+◌, ◌*◌, ◌<◌, ◌≤◌}
use mathlib.Core.Path.{◌≡◌, refl, ap, ◌∙◌, fun_ext}
use mathlib.Core.List.{List, [], map}
use mathlib.Core.Bool.{Bool, true, false}
use native.Mathlib.Omega.{arith}
use lib.Dec.{eqb}
use lib.ListN.{get_or}
use borrow.Author.Tests.{eqb-false}
use Rattle.lists.specs.Lists.{pick}
use Rattle.tags.specs.Inner.{SlotsThere}
use Rattle.seen.specs.Seen.{Seen, seen, There, two, four}
use Rattle.seen.proofs.Words.{there_part}
use Rattle.seen.proofs.Own.{byte_own, two_own, four_own, span_own}
use Rattle.header.specs.Header.{begins, big_endian, first_of, HeaderFine}
use Rattle.tags.specs.Slots.{known, defaults, entry_in, image_width, image_length, compression, photometric, fill_order, orientation, samples_per_pixel, rows_per_strip, planar_configuration, predictor, tile_width, tile_length}
use Rattle.tags.specs.Tags.{type_at, entry_of, slots_in}
use Rattle.directory.specs.Directory.{entries_at, slots_at, next_at}
use Rattle.tiff.specs.Walk.{page_at}
use Rattle.directory.specs.Accepted.{DirectoryFine}
use Rattle.tiff.specs.Accepted.{WalkFine}
use Rattle.directory.proofs.Accepted.{slots_there}
use Rattle.profile.specs.Profile.{slot_number, numbers_of, shape_in, format_with, format_of}
use Rattle.profile.specs.declared.Numbers.{Numbers}
use Rattle.front.specs.Front.{format_seen}
use Rattle.entries.specs.Values.{count_at, size_of, word_at, scalar_of, in_field, place_of, value_at}
use Rattle.picture.specs.Inner.{Readable}
use Rattle.picture.specs.declared.Format.{Format}
use Rattle.plan.specs.Plan.{offset_of, count_of}
use Rattle.logluv_segment.specs.Segment.{stored}
use Rattle.geometry.specs.Geometry.{segment_of}
use Rattle.packets.specs.Packets.{expand}
use Rattle.pixel.specs.Luv.{pixel_of}
use Rattle.promises.specs.Strict.{Good, place_in, pixel_seen}

-- the file under a map, and the file whole
module _ (file came : List ℕ) where
  abbrev v : Seen
  v = seen file came

  abbrev o : Seen
  o = seen file []

  -- a part of bytes that are there
  part_there : (start n at m : ℕ) → There v start n → start ≤ at → at + m ≤ start + n → There v at m
  part_there = there_part v

  -- the header
  header_byte : HeaderFine v → (i : ℕ) → i < 8 → v.byte i ≡ o.byte i
  header_byte h i l = byte_own file came 0 8 h.eight_bytes i (omega arith) l

  order_own : HeaderFine v → big_endian v ≡ big_endian o
  unfolding begins
  order_own h = rw (header_byte h 0 (omega arith), header_byte h 1 (omega arith), header_byte h 2 (omega arith), header_byte h 3 (omega arith))

  first_own : HeaderFine v → first_of v ≡ first_of o
  first_own h =
      four_own file came (big_endian v) 4 (part_there 0 8 4 4 h.eight_bytes (omega arith) (omega arith)) ∙ ap (λ (b : Bool). four b o 4) (order_own h)

  -- a directory: its number of entries, their places by slot, the next offset
  module _ (b : Bool) (maxTags at : ℕ) (d : DirectoryFine v b maxTags at) where
    entries_own : entries_at v b at ≡ entries_at o b at
    entries_own = two_own file came b at d.count_there

    entry_own : (tag n : ℕ) → n ≤ entries_at v b at → entry_of v b (at + 2) tag n ≡ entry_of o b (at + 2) tag n
    unfolding entry_of
    entry_own tag zero h = refl
    entry_own tag (suc n) h =
        let there = part_there (at + 2) (12 * entries_at v b at + 4) (at + 2 + 12 * n) 2 d.entries_there (omega arith) (omega arith) in
        rw (two_own file came b (at + 2 + 12 * n) there, entry_own tag n (omega arith))

    slots_own : slots_at v b at ≡ slots_at o b at
    unfolding slots_in
    slots_own =
        ap (λ (entry : ℕ → ℕ). map entry known)
        (fun_ext (λ tag. entry_own tag (entries_at v b at) (omega arith) ∙ ap (entry_of o b (at + 2) tag) entries_own))

    next_own : next_at v b at ≡ next_at o b at
    next_own =
        let n = entries_at v b at in
        four_own file came b (at + 2 + 12 * n) (part_there (at + 2) (12 * n + 4) (at + 2 + 12 * n) 4 d.entries_there (omega arith) (omega arith))
        ∙ ap (λ (m : ℕ). four b o (at + 2 + 12 * m)) entries_own

  -- the way to a page
  page_own : (b : Bool) (maxTags page first : ℕ) → WalkFine v b maxTags page first → page_at v b page first ≡ page_at o b page first
  unfolding page_at
  page_own b maxTags zero first w = refl
  page_own b maxTags (suc page) first w =
      let further : WalkFine v b maxTags page (next_at v b first) = record {
        has_place = λ i l. w.has_place (suc i) (omega arith);
        is_fine = λ i l. w.is_fine (suc i) (omega arith);
      } in
      page_own b maxTags page (next_at v b first) further ∙ ap (page_at o b page) (next_own b maxTags first (w.is_fine 0 (omega arith)))

  -- an entry: its type and count, where its values lie, and each value that is there
  module _ (b : Bool) (e : ℕ) (t : There v e 12) where
    type_own : type_at v b e ≡ type_at o b e
    type_own = two_own file came b (e + 2) (part_there e 12 (e + 2) 2 t (omega arith) (omega arith))

    count_own : count_at v b e ≡ count_at o b e
    count_own = four_own file came b (e + 4) (part_there e 12 (e + 4) 4 t (omega arith) (omega arith))

    place_own : (i : ℕ) → place_of v b e i ≡ place_of o b e i
    unfolding place_of in_field size_of
    place_own i = rw (count_own, type_own, four_own file came b (e + 8) (part_there e 12 (e + 8) 4 t (omega arith) (omega arith)))

    word_own : (p : ℕ) → There v p (size_of v b e) → word_at v b e p ≡ word_at o b e p
    unfolding word_at size_of
    word_own p there = by (eqb (type_at v b e) 3) there ∙ ap (λ (t : ℕ). pick (eqb t 3) (two b o p) (four b o p)) type_own
      where
        by : (short : Bool) → There v p (pick short 2 4) → pick short (two b v p) (four b v p) ≡ pick short (two b o p) (four b o p)
        by true there = two_own file came b p there
        by false there = four_own file came b p there

    value_own : (i : ℕ) → There v (place_of v b e i) (size_of v b e) → value_at v b e i ≡ value_at o b e i
    value_own i there = word_own (place_of v b e i) there ∙ ap (word_at o b e) (place_own i)

    -- a single value
    scalar_own : scalar_of v b e ≡ scalar_of o b e
    unfolding size_of
    scalar_own = word_own (e + 8) (by (eqb (type_at v b e) 3))
      where
        by : (short : Bool) → There v (e + 8) (pick short 2 4)
        by true = part_there e 12 (e + 8) 2 t (omega arith) (omega arith)
        by false = part_there e 12 (e + 8) 4 t (omega arith) (omega arith)

  -- the numbers of the scalar slots
  module _ (b : Bool) (slots : List ℕ) (there : SlotsThere v slots) where
    number_own : (k : ℕ) → slot_number v b slots k ≡ slot_number o b slots k
    unfolding slot_number
    number_own k = by (eqb (entry_in slots k) 0) refl
      where
        by : (t : Bool) → eqb (entry_in slots k) 0 ≡ t
            → pick t (get_or defaults k 0) (scalar_of v b (entry_in slots k)) ≡ pick t (get_or defaults k 0) (scalar_of o b (entry_in slots k))
        by true e = refl
        by false e = scalar_own b (entry_in slots k) ((there.at_slot k).entry (eqb-false (entry_in slots k) 0 e))

    numbers_own : numbers_of v b slots ≡ numbers_of o b slots
    unfolding numbers_of
    numbers_own =
        rw (
          number_own image_width,
          number_own image_length,
          number_own compression,
          number_own photometric,
          number_own fill_order,
          number_own orientation,
          number_own samples_per_pixel,
          number_own rows_per_strip,
          number_own planar_configuration,
          number_own predictor,
          number_own tile_width,
          number_own tile_length,
        )

  -- the format of the directory at a place, and of a page
  abbrev format_at : Seen → Bool → ℕ → Format
  format_at w b at = format_of w b (entries_at w b at) (slots_at w b at)

  directory_own : (b : Bool) (maxTags at : ℕ) → DirectoryFine v b maxTags at → format_at v b at ≡ format_at o b at
  directory_own b maxTags at d =
      let slots = slots_at v b at in
      let numbers = numbers_own b slots (slots_there v b maxTags at d) in
      ap (λ (n : Numbers). format_with b (entries_at v b at) slots (shape_in slots n)) numbers
      ∙ ap (λ (n : ℕ). format_of o b n slots) (entries_own b maxTags at d)
      ∙ ap (λ (s : List ℕ). format_of o b (entries_at o b at) s) (slots_own b maxTags at d)

  format_at_own : (b : Bool) (maxTags page first : ℕ) → WalkFine v b maxTags page first → format_at v b (page_at v b page first)
      ≡ format_at o b (page_at o b page first)
  format_at_own b maxTags page first w =
      directory_own b maxTags (page_at v b page first) (w.is_fine page (omega arith)) ∙ ap (format_at o b) (page_own b maxTags page first w)

  pub format_own : (page maxTags : ℕ) → HeaderFine v → WalkFine v (big_endian v) maxTags page (first_of v) → format_seen v page ≡ format_seen o page
  format_own page maxTags h w =
      format_at_own (big_endian v) maxTags page (first_of v) w
      ∙ ap (λ (b : Bool). format_at o b (page_at o b page (first_of v))) (order_own h)
      ∙ ap (λ (first : ℕ). format_at o (big_endian o) (page_at o (big_endian o) page first)) (first_own h)

  -- a segment whose entries and stored bytes are there: these bytes, and so its pixels
  module _ (f : Format) (readable : Readable v f) (k : ℕ) (good : Good v f k) where
    pub stored_own : stored v f k ≡ stored o f k
    unfolding stored
    stored_own =
        span_own file came (count_of v f k) (offset_of v f k) good.range_is_there
        ∙ rw (
          value_own f.big f.offsets readable.offsets_there k good.offset_there,
          value_own f.big f.counts readable.counts_there k good.count_there,
        )

  pub pixel_own : (f : Format) → Readable v f → (x y : ℕ) → Good v f (segment_of f.block_width f.block_height f.across x y)
      → pixel_seen v f x y ≡ pixel_seen o f x y
  pixel_own f readable x y good =
      ap (λ (bytes : List ℕ). pixel_of f.mono (λ plane. get_or (expand bytes 0) (place_in f x y plane) 0))
      (stored_own f readable (segment_of f.block_width f.block_height f.across x y) good)
