-- Patchy reading is exact: it answers exactly if each of its tests holds and the units cover its charge, and each refusal is that of the
-- first check that fails. A refusal leaves nothing in the buffers but zero quality bytes.
use Prim.Native.Nat.{ℕ, ◌-◌, ◌<◌, ◌≤◌}
use mathlib.Core.Path.{◌≡◌, refl, ◌∙◌}
use mathlib.Core.Logic.Iff
use mathlib.Core.Logic.{◌↔◌}
use mathlib.Core.Bool.{Bool, true}
use mathlib.Core.List.{[], ◌∷◌, ◌++◌}
use native.Mathlib.Omega.{arith}
use lib.ListN.{length, replicate, length-replicate}
use Rattle.lists.proofs.Overlay.{length_span, overlay_length}
use borrow.Author.Tests.{leb-true, le-leb}
use Rattle.head.specs.Heads.{channels_of}
use Rattle.checks.specs.Numbers.{number_of, limit, output_too_small, leaving}
use Rattle.checks.specs.Checks.{run, Holds, cost, Never}
use Rattle.checks.specs.Exact.{Exact, RefusedAt}
use Rattle.checks.proofs.Exact.{accepted, both, cost_then, never_both}
use Rattle.checks.proofs.Refusals.{refused}
use Rattle.checks.specs.Sizes.{most64}
use Rattle.seen.specs.Seen.{map_checks}
use Rattle.seen.proofs.Maps.{map_fine}
use Rattle.header.specs.Header.{limit_checks}
use Rattle.front.specs.Front.{front_checks}
use Rattle.front.proofs.Accepted.{front_cost}
use Rattle.front.proofs.Arrival.{Unusual, never_front}
use Rattle.picture.specs.Picture.{scratch_of}
use Rattle.picture.proofs.Pictures.{picture_length}
use Rattle.quality.specs.Quality.{code_of, shows_of}
use Rattle.patchy.specs.Patchy.{sizes_of, reading_number, reading_values, reading_left, output_after, scratch_after, quality_after}
use Rattle.admission.specs.Admission.{picture_charge, buffer_checks, patchy_checks}
use Rattle.admission.specs.Inner.{room_checks, charge_checks, admit_checks}
use Rattle.patchy.specs.declared.Sizes.{Sizes}
use Rattle.patchy.specs.declared.Reading.{Reading}
use Rattle.patchy.proofs.Answers.{picture_told, refusal_told}
use Rattle.promises.specs.Patchy.{Call, view, page_format, room, checks, Answered, RefusedWith, answer, output_then, scratch_then, quality_then, ReadFine, reading_charge, Reads}
use Rattle.promises.proofs.Strict.{page_is_fine}
use Rattle.promises.proofs.Numbers.{told_numbered}
use Rattle.std.specs.Prelude.{Result, Ok, Err}
use Rattle.checks.specs.declared.Refusal.{Refusal}
use Rattle.checks.specs.declared.Refused.{Refused}

module _ (c : Call) where
  -- what the format asks for, without order
  abbrev Roomy : Type 0
  Roomy =
      (scratch_of (page_format c) ≤ c.limits.max_output)
      × (((page_format c).output ≤ length c.output)
      × ((scratch_of (page_format c) ≤ length c.scratch)
      × (((page_format c).segments ≤ length c.quality) × (picture_charge (view c) (page_format c) ≤ most64))))

  admit_fine : Holds (admit_checks (view c) (page_format c) c.limits.max_output (room c)) ↔ Roomy
  unfolding Holds admit_checks room_checks buffer_checks charge_checks
  admit_fine =
      let f = page_format c in
      let work = picture_charge (view c) f in (
        λ h. (
          leb-true (scratch_of f) c.limits.max_output h.0,
          (
            leb-true f.output (length c.output) h.1.0,
            (
              leb-true (scratch_of f) (length c.scratch) h.1.1.0,
              (leb-true f.segments (length c.quality) h.1.1.1.0, leb-true work most64 h.1.1.1.1.0),
            ),
          ),
        ),
        λ p. (
          le-leb (scratch_of f) c.limits.max_output p.0,
          (
            le-leb f.output (length c.output) p.1.0,
            (
              le-leb (scratch_of f) (length c.scratch) p.1.1.0,
              (le-leb f.segments (length c.quality) p.1.1.1.0, (le-leb work most64 p.1.1.1.1, tt)),
            ),
          ),
        ),
      )

  read_fine : Holds (checks c) ↔ ReadFine c
  unfolding patchy_checks admit_checks room_checks charge_checks
  read_fine =
      let v = view c in
      let limits = limit_checks v.size c.page c.limits in
      let map = map_checks v.size (length c.map) in
      let front = front_checks v c.page c.limits in
      let admit = admit_checks v (page_format c) c.limits.max_output (room c) in
      Iff.trans
      (both limits (map ++ (front ++ admit)) (λ h. h, λ h. h)
      (both map (front ++ admit) (map_fine v.size (length c.map)) (both front admit (λ h. h, λ h. h) admit_fine))) (
        λ p. record {
          page_fine = (page_is_fine v c.page c.limits).0 (p.0, p.1.1.0);
          lent_fine = record {
            map_fits = p.1.0;
            output_holds = p.1.1.1.1.0;
            scratch_holds = p.1.1.1.1.1.0;
            quality_holds = p.1.1.1.1.1.1.0;
          };
          scratch_allowed = p.1.1.1.0;
          charge_fits = p.1.1.1.1.1.1.1;
        },
        λ r.
            let g = (page_is_fine v c.page c.limits).1 r.page_fine in
            let l = r.lent_fine in
            (g.0, (l.map_fits, (g.1, (r.scratch_allowed, (l.output_holds, (l.scratch_holds, (l.quality_holds, r.charge_fits))))))),
      )

  read_cost : cost (checks c) ≡ reading_charge c
  unfolding cost patchy_checks admit_checks room_checks buffer_checks charge_checks
  read_cost =
      let v = view c in
      let front = front_checks v c.page c.limits in
      let admit = admit_checks v (page_format c) c.limits.max_output (room c) in
      cost_then front admit ∙ rw (front_cost v c.page c.limits) (omega arith)

  module _ (s : Sizes) (w : ℕ) where
    reads : Exact (checks c) c.units w → s ≡ sizes_of (page_format c) → Reads c s w
    reads x e = record { fine = read_fine.0 x.holds; covered = omega (arith, read_cost, x.covered); rest = x.rest ∙ rw read_cost; sizes_are = e }

    is_exact : Reads c s w → Exact (checks c) c.units w
    is_exact r = record { holds = read_fine.1 r.fine; covered = omega (arith, read_cost, r.covered); rest = r.rest ∙ rw read_cost }

  -- it answers with these sizes and leaves w units exactly if each test holds and the charge is covered, and no more is charged
  pub reading_exact : (s : Sizes) (w : ℕ) → (Answered c s w) ↔ Reads c s w
  reading_exact s w = (
    λ e. let p = picture_told (run (checks c) c.units) (page_format c) e in reads s w ((accepted (checks c) c.units w).0 p.0) p.1,
    λ r. rw ((accepted (checks c) c.units w).1 (is_exact s w r), r.sizes_are),
  )

  -- so it answers exactly if each test holds and the units cover the charge
  pub reading_answers : ((s : Sizes) × (w : ℕ) × (Answered c s w)) ↔ (ReadFine c × (reading_charge c ≤ c.units))
  reading_answers = (
    λ (s, w, e). let r = (reading_exact s w).0 e in (r.fine, r.covered),
    λ p. (
      sizes_of (page_format c),
      c.units - reading_charge c,
      (reading_exact (sizes_of (page_format c)) (c.units - reading_charge c)).1 (record { fine = p.0; covered = p.1; rest = refl; sizes_are = refl }),
    ),
  )

  told_refused : (e : Refusal) (w : ℕ) → RefusedWith c e w → run (checks c) c.units ≡ Err (leaving e w)
  told_refused e w q = refusal_told (run (checks c) c.units) (page_format c) q

  -- a number outside of 1 to 9 is given by no check
  module _ (number : ℕ) (other : (0 < number) × (number ≤ 9) → ⊥) where
    over : {b : Bool} → number_of limit ≡ number → b ≡ true
    over z = absurd (other (omega arith, omega arith))

    short : {b : Bool} → number_of output_too_small ≡ number → b ≡ true
    short z = absurd (other (omega arith, omega arith))

    never_other : Never number (checks c)
    unfolding Never patchy_checks admit_checks room_checks buffer_checks charge_checks
    never_other =
        let v = view c in
        let limits = limit_checks v.size c.page c.limits in
        let map = map_checks v.size (length c.map) in
        let front = front_checks v c.page c.limits in
        let admit = admit_checks v (page_format c) c.limits.max_output (room c) in
        let unusual : Unusual number = λ n a b z. other (omega arith, omega arith) in
        never_both number limits (map ++ (front ++ admit)) (over, (over, tt))
        (never_both number map (front ++ admit) (λ z. absurd (other (omega arith, omega arith)), tt)
        (never_both number front admit (never_front number unusual v (λ z. absurd (other (omega arith, omega arith))) c.page c.limits)
        (over, (short, (short, (short, (over, (λ z. other (omega arith, omega arith), tt))))))))

  -- so a refusal has one of these numbers
  pub reading_numbered : (e : Refusal) (w : ℕ) → RefusedWith c e w → (0 < number_of e) × (number_of e ≤ 9)
  reading_numbered e w q = told_numbered 9 (checks c) never_other c.units e w (told_refused e w q)

  -- so an answer's number is 0 exactly if it is a picture
  pub reading_number_lem : (reading_number (answer c) ≡ 0) ↔ ((s : Sizes) × (w : ℕ) × (Answered c s w))
  reading_number_lem = (λ z. by (answer c) refl z, λ (s, w, e). rw e)
    where
      by : (r : Result Reading Refused) → answer c ≡ r → reading_number r ≡ 0 → (s : Sizes) × (w : ℕ) × (Answered c s w)
      by (Ok r) e z = (r.sizes, r.left, e)
      by (Err r) e z = let p = reading_numbered r.refusal r.left e in absurd (omega (arith, p.0))

  -- an answer has the number 0, five sizes of the page's format and the channels of its head as its values, and the units less the charge
  pub reading_values_lem : (s : Sizes) (w : ℕ) → Answered c s w
      → (reading_number (answer c) ≡ 0)
      × ((reading_values (answer c)
      ≡ (page_format c).width ∷ (page_format c).height ∷ (page_format c).block_width ∷ (page_format c).block_height ∷ (page_format c).segments ∷
      channels_of (page_format c).mono ∷ [])
      × (reading_left (answer c) ≡ c.units - reading_charge c))
  reading_values_lem s w e =
      let r = (reading_exact s w).0 e in
      rw e (refl, (rw r.sizes_are, r.rest))

  -- it refuses exactly with the number of the first check that fails: the charges before stay taken, one that fails is not taken
  pub reading_refused : (e : Refusal) (w : ℕ) → RefusedWith c e w ↔ RefusedAt (checks c) c.units e w
  reading_refused e w = Iff.trans (told_refused e w, λ q. rw q) (refused (checks c) c.units e w)

  -- a refusal leaves output and scratch as they were, and every quality byte 0
  pub refused_leaves : (e : Refusal) (w : ℕ) → RefusedWith c e w → (output_then c ≡ c.output)
      × ((scratch_then c ≡ c.scratch) × (quality_then c ≡ replicate (length c.quality) 0))
  refused_leaves e w q = rw q (refl, (refl, refl))

  -- whatever the answer, each buffer keeps its length
  pub lengths_stay : (length (output_then c) ≡ length c.output)
      × ((length (scratch_then c) ≡ length c.scratch) × (length (quality_then c) ≡ length c.quality))
  lengths_stay = by (answer c) refl
    where
      by : (r : Result Reading Refused) → answer c ≡ r
          → (length (output_after (view c) c.page r c.output) ≡ length c.output)
          × ((length (scratch_after (view c) c.page r c.scratch) ≡ length c.scratch)
          × (length (quality_after (view c) c.page r c.quality) ≡ length c.quality))
      by (Err r) q = (refl, (refl, length-replicate (length c.quality) 0))
      by (Ok r) q =
          let fine = ((reading_exact r.sizes r.left).0 q).fine.lent_fine in
          let zeros = length-replicate {A = ℕ} (length c.quality) 0 in (
            overlay_length _ _ (omega (arith, picture_length (page_format c) (shows_of (view c) (page_format c)), fine.output_holds)),
            (
              overlay_length _ _ (omega (arith, length-replicate {A = ℕ} (scratch_of (page_format c)) 0, fine.scratch_holds)),
              overlay_length _ _ (omega (arith, length_span (code_of (view c) (page_format c)) 0 (page_format c).segments, zeros, fine.quality_holds)) ∙ zeros,
            ),
          )
