-- Of a file that came whole patchy reading and strict reading agree: all segments are good exactly if strict inspection succeeds, and then
-- the charge, the units left and the picture are the same.
use Prim.Native.Nat.{ℕ, zero, suc, ◌+◌, ◌<◌, ◌≤◌}
use mathlib.Core.Path.{◌≡◌, refl, sym, ap, ◌∙◌}
use mathlib.Core.Logic.{◌↔◌}
use mathlib.Core.List.{[]}
use native.Mathlib.Omega.{arith}
use Rattle.lists.specs.Lists.{overlay}
use Rattle.seen.specs.Seen.{Seen, seen}
use Rattle.seen.proofs.Alike.{came_whole}
use Rattle.picture.specs.declared.Format.{Format}
use Rattle.logluv_segment.specs.Segment.{fees_of}
use Rattle.showing.specs.Shown.{shown}
use Rattle.picture.specs.Picture.{picture_of}
use Rattle.logluv_segment.proofs.Fees.{fee_below}
use Rattle.picture.proofs.Pictures.{same_picture}
use Rattle.inspection.specs.Inspection.{handle_of, inspected_of}
use Rattle.handle.specs.declared.Handle.{Handle}
use Rattle.handle.specs.Handle.{inspected_with}
use Rattle.quality.specs.Quality.{shows_of}
use Rattle.patchy.specs.Patchy.{sizes_of}
use Rattle.admission.specs.Admission.{charges_of, picture_charge}
use Rattle.patchy.specs.declared.Sizes.{Sizes}
use Rattle.promises.specs.Strict.{Good, Inspects}
use Rattle.promises.specs.Patchy.{Call, view, page_format, Answered, MarkedGood, output_then, Reads, Suffices}
use Rattle.promises.proofs.Strict.{page_valid, inspection_exact}
use Rattle.promises.proofs.Bounds.{scratch_largest}
use Rattle.promises.proofs.Patchy.{reading_exact}
use Rattle.promises.proofs.Marks.{quality_good}
use Rattle.promises.proofs.Codes.{good_charged, good_shown}
use Rattle.std.specs.Prelude.{Ok}

-- where all are good the charges are the fees
charges_fees : (v : Seen) (f : Format) (n k : ℕ) → ((j : ℕ) → k ≤ j → j < k + n → Good v f j) → charges_of v f k n ≡ fees_of v f k n
unfolding charges_of fees_of
charges_fees v f zero k good = refl
charges_fees v f (suc n) k good =
    rw (good_charged v f k (good k (omega arith) (omega arith)), charges_fees v f n (suc k) (λ j a b. good j (omega arith) (omega arith)))

module _ (c : Call) (enough : Suffices c) where
  abbrev v : Seen
  v = view c

  abbrev f : Format
  f = page_format c

  -- each segment is good, so what is charged for them is the sum of fees
  all_charged : ((k : ℕ) → k < f.segments → Good v f k) → picture_charge v f ≡ fees_of v f 0 f.segments
  all_charged good = charges_fees v f f.segments 0 (λ j a b. good j (omega arith))

  -- what is true of a reading with every segment good is true of an inspection, and the other way round
  module _ (w : ℕ) where
    read_inspects : (s : Sizes) → Reads c s w → ((k : ℕ) → k < f.segments → Good v f k) → Inspects v c.page c.limits c.units w (handle_of v c.page)
    read_inspects s r good =
        let same = all_charged good in
        let largest = scratch_largest f (page_valid v c.page c.limits r.fine.page_fine) in
        record {
          fine = record {
            page_fine = r.fine.page_fine;
            each_segment = λ k l. record {
              good = good k l;
              room_allowed = omega (arith, largest.none_more k l, r.fine.scratch_allowed);
              fee_fits = omega (arith, fee_below v f f.segments 0 k (omega arith) (omega arith), same, r.fine.charge_fits);
            };
          };
          covered = omega (arith, same, r.covered);
          rest = omega (arith, same, r.rest);
          handle_is = refl;
        }

    inspects_read : (h : Handle) → Inspects v c.page c.limits c.units w h → Reads c (sizes_of f) w
    inspects_read h i =
        let same = all_charged (λ k l. (i.fine.each_segment k l).good) in
        let largest = scratch_largest f (page_valid v c.page c.limits i.fine.page_fine) in
        record {
          fine = record {
            page_fine = i.fine.page_fine;
            lent_fine = enough.lent_fine;
            scratch_allowed = omega (arith, largest.first_all, (i.fine.each_segment 0 largest.some_segment).room_allowed);
            charge_fits = omega (arith, same, i.covered, enough.units_fit);
          };
          covered = omega (arith, same, i.covered);
          rest = omega (arith, same, i.rest);
          sizes_are = refl;
        }

  -- with nothing missing both see the same
  same_view : v ≡ seen c.file []
  same_view = came_whole c.file c.map enough.came

  inspects : (h : Handle) (w : ℕ) → (inspected_of (seen c.file []) c.page c.limits c.units ≡ Ok (inspected_with h w))
      ↔ Inspects v c.page c.limits c.units w h
  inspects h w =
      let same = ap (λ (x : Seen). inspected_of x c.page c.limits c.units) same_view in
      let i = inspection_exact v c.page c.limits c.units w h in
      (λ e. i.0 (same ∙ e), λ x. sym same ∙ i.1 x)

  -- patchy reading answers with every quality byte of a segment 1 exactly if strict inspection succeeds, and both leave the same units
  pub whole_exact : (w : ℕ)
      → ((s : Sizes) × (Answered c s w × ((k : ℕ) → k < s.segments → MarkedGood c k)))
      ↔ ((h : Handle) × (inspected_of (seen c.file []) c.page c.limits c.units ≡ Ok (inspected_with h w)))
  whole_exact w = (
    λ (s, (e, marked)).
        let r = (reading_exact c s w).0 e in
        let many : s.segments ≡ f.segments = ap (λ (x : Sizes). x.segments) r.sizes_are in
        let below : (k : ℕ) → k < f.segments → k < s.segments = λ k l. omega (arith, many, l) in
        let good : (k : ℕ) → k < f.segments → Good v f k = λ k l. (quality_good c s w e k (below k l)).0 (marked k (below k l)) in
        (handle_of v c.page, (inspects (handle_of v c.page) w).1 (read_inspects w s r good)),
    λ (h, e).
        let i = (inspects h w).0 e in
        let answered = (reading_exact c (sizes_of f) w).1 (inspects_read w h i) in
        (sizes_of f, (answered, λ k l. (quality_good c (sizes_of f) w answered k l).1 (i.fine.each_segment k l).good)),
  )

  module _ (h : Handle) (w : ℕ) (gave : inspected_of (seen c.file []) c.page c.limits c.units ≡ Ok (inspected_with h w)) where
    -- the output is what strict decode of the handle leaves in it
    pub whole_picture : output_then c ≡ overlay (picture_of h.format (shown (seen c.file []) h.format)) c.output
    whole_picture =
        let i = (inspects h w).0 gave in
        let ok = page_valid v c.page c.limits i.fine.page_fine in
        let format_is : h.format ≡ f = ap (λ (x : Handle). x.format) i.handle_is in
        let shows = same_picture f (shows_of v f) (shown v f) ok (λ k l. good_shown v f k (i.fine.each_segment k l).good) in
        rw ((reading_exact c (sizes_of f) w).1 (inspects_read w h i), format_is, shows)
        (ap (λ (x : Seen). overlay (picture_of f (shown x f)) c.output) same_view)

    -- what is charged for the segments is the handle's work
    pub whole_charge : picture_charge (view c) (page_format c) ≡ h.work
    whole_charge =
        let i = (inspects h w).0 gave in
        all_charged (λ k l. (i.fine.each_segment k l).good) ∙ sym (ap (λ (x : Handle). x.work) i.handle_is)
