-- Strict inspection is exact: it gives its handle and leaves its units exactly if the picture is fine and the charge covered, and each
-- refusal is that of the first check that fails.
use Prim.Native.Nat.{ℕ, ◌-◌, ◌<◌, ◌≤◌}
use mathlib.Core.Path.{◌≡◌, refl, ◌∙◌}
use mathlib.Core.Logic.Iff
use mathlib.Core.Logic.{◌↔◌}
use mathlib.Core.List.{List, []}
use mathlib.Core.Bool.{true}
use native.Mathlib.Omega.{arith}
use borrow.Author.Tests.{leb-true, le-leb, ltb-true, lt-ltb}
use Rattle.checks.specs.Numbers.{number_of, limit, not_arrived, leaving}
use Rattle.checks.specs.Checks.{run, Holds, cost, Never}
use Rattle.checks.specs.Exact.{Exact, RefusedAt}
use Rattle.checks.proofs.Exact.{accepted, both, cost_then, never, never_both}
use Rattle.checks.proofs.Refusals.{refused}
use Rattle.seen.specs.Seen.{Seen, seen, whole}
use Rattle.seen.proofs.Alike.{whole_came}
use Rattle.header.specs.Header.{limit_checks, big_endian, first_of}
use Rattle.directory.specs.Directory.{entries_at, slots_at}
use Rattle.tiff.specs.Walk.{page_at}
use Rattle.header.specs.declared.Limits.{Limits}
use Rattle.front.specs.Front.{front_checks, format_seen}
use Rattle.profile.proofs.Accepted.{valid}
use Rattle.front.proofs.Accepted.{front_holds, front_cost, front_readable}
use Rattle.front.proofs.Arrival.{Unusual, missing_unusual, not_given, never_front}
use Rattle.picture.specs.Inner.{Valid, Readable}
use Rattle.inspection.specs.Inspection.{segments_checks, handle_of, inspect_checks, inspected_of}
use Rattle.inspection.specs.Inner.{picture_checks}
use Rattle.handle.specs.declared.Handle.{Handle}
use Rattle.handle.specs.Handle.{inspected_with}
use Rattle.handle.proofs.Answers.{inspected_picture, inspected_refused}
use Rattle.promises.specs.Strict.{PageFine, PictureFine, inspection_charge, Inspects}
use Rattle.logluv_segment.proofs.Fees.{segments_cost}
use Rattle.promises.proofs.Segments.{segments_fine, never_segments}
use Rattle.std.specs.Prelude.{Ok, Err}
use Rattle.checks.specs.declared.Refusal.{Refusal}

module _ (v : Seen) (page : ℕ) (l : Limits) where
  limits_fine : Holds (limit_checks v.size page l) ↔ ((v.size ≤ l.max_input) × (page < l.max_directories))
  unfolding Holds
  limits_fine = (
    λ h. (leb-true v.size l.max_input h.0, ltb-true page l.max_directories h.1.0),
    λ p. (le-leb v.size l.max_input p.0, (lt-ltb page l.max_directories p.1, tt)),
  )

  -- the limits and the front part
  pub page_is_fine : (Holds (limit_checks v.size page l) × Holds (front_checks v page l)) ↔ PageFine v page l
  page_is_fine = (
    λ p.
        let a = limits_fine.0 p.0 in
        let b = (front_holds v page l).0 p.1 in
        record { input_allowed = a.0; page_allowed = a.1; header = b.0; directories = b.1.0; profile = b.1.1 },
    λ f. (limits_fine.1 (f.input_allowed, f.page_allowed), (front_holds v page l).1 (f.header, (f.directories, f.profile))),
  )

  -- the sizes of its format are then sound
  pub page_valid : PageFine v page l → Valid (format_seen v page)
  page_valid p =
      let at = page_at v (big_endian v) page (first_of v) in
      valid v (big_endian v) (entries_at v (big_endian v) at) (slots_at v (big_endian v) at) l p.profile

  -- and it can be read
  pub page_readable : PageFine v page l → Readable v (format_seen v page)
  page_readable p = front_readable v page l ((front_holds v page l).1 (p.header, (p.directories, p.profile)))

  pub picture_fine : Holds (inspect_checks v page l) ↔ PictureFine v page l
  unfolding inspect_checks picture_checks segments_checks
  picture_fine =
      let f = format_seen v page in
      Iff.trans
      (both (limit_checks v.size page l) (picture_checks v page l) (λ h. h, λ h. h)
      (both (front_checks v page l) (segments_checks v f l.max_output) (λ h. h, λ h. h) (segments_fine v f l.max_output f.segments))) (
        λ p. record { page_fine = page_is_fine.0 (p.0, p.1.0); each_segment = p.1.1 },
        λ f. let g = page_is_fine.1 f.page_fine in (g.0, (g.1, f.each_segment)),
      )

  pub picture_cost : cost (inspect_checks v page l) ≡ inspection_charge v page
  unfolding cost inspect_checks picture_checks segments_checks
  picture_cost =
      let f = format_seen v page in
      cost_then (front_checks v page l) (segments_checks v f l.max_output)
      ∙ rw (front_cost v page l, segments_cost v f l.max_output f.segments 0)

  module _ (u w : ℕ) where
    passes : Exact (inspect_checks v page l) u w → Inspects v page l u w (handle_of v page)
    passes x =
        record { fine = picture_fine.0 x.holds; covered = omega (arith, picture_cost, x.covered); rest = x.rest ∙ rw picture_cost; handle_is = refl }

    is_exact : (h : Handle) → Inspects v page l u w h → Exact (inspect_checks v page l) u w
    is_exact h i = record { holds = picture_fine.1 i.fine; covered = omega (arith, picture_cost, i.covered); rest = i.rest ∙ rw picture_cost }

    -- it succeeds exactly if nothing that refuses is met, and has then charged the directories, 128 and the sum of fees, no more
    pub inspection_exact : (h : Handle) → (inspected_of v page l u ≡ Ok (inspected_with h w)) ↔ Inspects v page l u w h
    inspection_exact h = (
      λ e.
          let p = inspected_picture (run (inspect_checks v page l) u) (handle_of v page) h w e in
          rw p.1 (passes ((accepted (inspect_checks v page l) u w).0 p.0)),
      λ i. rw ((accepted (inspect_checks v page l) u w).1 (is_exact h i), i.handle_is),
    )

    pub told_passed : (h : Handle) → inspected_of v page l u ≡ Ok (inspected_with h w) → run (inspect_checks v page l) u ≡ Ok w
    told_passed h q = (inspected_picture (run (inspect_checks v page l) u) (handle_of v page) h w q).0

    pub told_refused : (e : Refusal) → inspected_of v page l u ≡ Err (leaving e w) → run (inspect_checks v page l) u ≡ Err (leaving e w)
    told_refused e q = inspected_refused (run (inspect_checks v page l) u) (handle_of v page) e w q

    -- it refuses exactly with the number of the first check that fails: the charges before stay taken, one that fails is not taken
    pub inspection_refused : (e : Refusal) → (inspected_of v page l u ≡ Err (leaving e w)) ↔ RefusedAt (inspect_checks v page l) u e w
    inspection_refused e = Iff.trans (told_refused e, λ q. rw q) (refused (inspect_checks v page l) u e w)

  -- so it answers exactly if the picture is fine and the units cover the charge
  pub inspection_answers : (u : ℕ) → ((h : Handle) × (w : ℕ) × (inspected_of v page l u ≡ Ok (inspected_with h w)))
      ↔ (PictureFine v page l × (inspection_charge v page ≤ u))
  inspection_answers u = (
    λ (h, w, e). let i = (inspection_exact u w h).0 e in (i.fine, i.covered),
    λ p. (
      handle_of v page,
      u - inspection_charge v page,
      (inspection_exact u (u - inspection_charge v page) (handle_of v page)).1 (record { fine = p.0; covered = p.1; rest = refl; handle_is = refl }),
    ),
  )

-- a number that is none of 1 to 7 is given by no check, and 8 only for bytes that did not come
pub never_inspect : (number : ℕ) → Unusual number → (v : Seen) → (number_of not_arrived ≡ number → (start n : ℕ) → whole v.came start n ≡ true)
    → (page : ℕ) (l : Limits) → Never number (inspect_checks v page l)
unfolding Never inspect_checks picture_checks segments_checks
never_inspect number unusual v all_came page l =
    let f = format_seen v page in
    never_both number (limit_checks v.size page l) (picture_checks v page l)
    (not_given number unusual limit (omega arith) (omega arith), (not_given number unusual limit (omega arith) (omega arith), tt))
    (never_both number (front_checks v page l) (segments_checks v f l.max_output) (never_front number unusual v all_came page l)
    (never_segments number unusual v all_came f l.max_output f.segments 0))

-- of a file that came whole nothing is missing
pub never_missing_strict : (file : List ℕ) (page : ℕ) (l : Limits) (u w : ℕ) → inspected_of (seen file []) page l u ≡ Err (leaving not_arrived w) → ⊥
never_missing_strict file page l u w q =
    let v = seen file [] in
    never 8 (inspect_checks v page l) u (leaving not_arrived w) (never_inspect 8 missing_unusual v (λ z. whole_came file) page l)
    (told_refused v page l u w not_arrived q) refl
