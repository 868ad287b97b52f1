-- A handle that passes its check is that of an accepted picture; and decode's checks, one after the other.
use Prim.Native.Nat.{ℕ, zero, suc, ◌+◌, ◌<◌, ◌≤◌}
use mathlib.Core.Path.{◌≡◌, sym, ap, ◌∙◌}
use mathlib.Core.Bool.{Bool, true, false}
use mathlib.Core.List.{List, [], ◌∷◌, ◌++◌}
use native.Mathlib.Omega.{arith}
use native.Mathlib.Nat.{eq-or-lt_of_le}
use mathlib.Core.Logic.{⊎_elim}
use borrow.Author.Rules.{rules}
use borrow.Author.Tests.{le-leb, lt-leb, not-true, not-false}
use Rattle.checks.specs.Numbers.{invalid, output_too_small, Told, leaving}
use Rattle.checks.specs.Checks.{pay, run, Holds}
use Rattle.checks.proofs.Exact.{accepted, holds_then, then, stops}
use Rattle.checks.specs.declared.Refused.{Refused}
use Rattle.checks.proofs.Rules.{must_no, must_yes, checks_refused}
use Rattle.checks.specs.Sizes.{most64}
use Rattle.seen.specs.Seen.{Seen}
use Rattle.header.specs.Header.{limit_checks}
use Rattle.header.specs.declared.Limits.{Limits}
use Rattle.front.specs.Front.{front_checks, format_seen}
use Rattle.picture.specs.declared.Format.{Format}
use Rattle.front.proofs.Accepted.{front_readable}
use Rattle.picture.specs.Picture.{scratch_of}
use Rattle.plan.specs.Plan.{place_checks, area_checks, plan_checks}
use Rattle.logluv_segment.specs.Segment.{fee_checks, segment_checks, each_segment}
use Rattle.inspection.specs.Inspection.{segments_checks, handle_of, inspect_checks, inspected_of, is_handle}
use Rattle.handle.specs.Handle.{inspected_with}
use Rattle.decoding.specs.Strict.{show_checks, decode_checks, both_checks, both_of, picture_over, cleared_over}
use Rattle.decoding.specs.Inner.{SegmentAccepted, PictureAccepted, HandleShowable}
use Rattle.handle.specs.declared.Handle.{Handle}
use Rattle.handle.specs.declared.Inspected.{Inspected}
use Rattle.handle.proofs.Answers.{inspected_picture, given_is}
use Rattle.std.specs.Prelude.{Ok, Err}

-- where the checks of all segments hold, those of each do
module _ (v : Seen) (f : Format) (maxOutput : ℕ) where
  each_holds : (n i k : ℕ) → Holds (each_segment v f maxOutput i n) → i ≤ k → k < i + n → Holds (segment_checks v f maxOutput k)
  unfolding each_segment
  each_holds zero i k h a b = absurd (omega arith)
  each_holds (suc n) i k h a b =
      let z = holds_then (segment_checks v f maxOutput i) (each_segment v f maxOutput (suc i) n) h in
      ⊎_elim (λ e. rw (← e) z.0) (λ l. each_holds n (suc i) k z.1 (omega arith) (omega arith)) (eq-or-lt_of_le a)

  segment_accepted : (k : ℕ) → Holds (segment_checks v f maxOutput k) → SegmentAccepted v f k
  unfolding segment_checks plan_checks Holds
  segment_accepted k h =
      let z = holds_then (plan_checks v f maxOutput k) (fee_checks v f k) h in
      record { place = (holds_then (place_checks v f k) (area_checks v f maxOutput k) z.0).0; packets = z.1 }

-- an inspection that gives a handle has found an accepted picture, and the handle is that of the page
module _ (v : Seen) (page : ℕ) (l : Limits) (u : ℕ) (h : Handle) (w : ℕ) (gave : inspected_of v page l u ≡ Ok (inspected_with h w)) where
  passed : (run (inspect_checks v page l) u ≡ Ok w) × (h ≡ handle_of v page)
  passed = inspected_picture (run (inspect_checks v page l) u) (handle_of v page) h w gave

  after_limits_lem : Holds (front_checks v page l) × Holds (segments_checks v (format_seen v page) l.max_output)
  unfolding inspect_checks
  after_limits_lem =
      let front = front_checks v page l in
      let segments = segments_checks v (format_seen v page) l.max_output in
      let all = ((accepted (inspect_checks v page l) u w).0 passed.0).holds in
      holds_then front segments (holds_then (limit_checks v.size page l) (front ++ segments) all).1

  page_accepted : PictureAccepted v (format_seen v page)
  unfolding segments_checks
  page_accepted =
      let f = format_seen v page in
      let each = each_holds v f l.max_output f.segments 0 in
      record {
        readable = front_readable v page l after_limits_lem.0;
        segment = λ k less. segment_accepted v f l.max_output k (each k after_limits_lem.1 (omega arith) (omega arith));
      }

  given_showable : HandleShowable v h
  given_showable = record {
    picture = rw passed.1 page_accepted;
    scratch_is = ap (λ (g : Handle). g.scratch) passed.1 ∙ ap (λ (g : Handle). scratch_of g.format) (sym passed.1);
  }

-- a handle that passes its check can be shown
checked : (v : Seen) (l : Limits) (h : Handle) → is_handle v l h ≡ true → HandleShowable v h
unfolding is_handle
checked v l h e =
    let (w, gave) = given_is (inspected_of v h.page l most64) h e in
    given_showable v h.page l most64 h w gave

-- the buffers, then the charge
module _ (h : Handle) (output scratch left : ℕ) where
  pub output_short : output < h.format.output → Err (leaving output_too_small left) ≡ run (show_checks h output scratch) left
  output_short s = must_no _ _ _ _ (lt-leb _ _ s)

  module _ (o : h.format.output ≤ output) where
    pub scratch_short : scratch < h.scratch → Err (leaving output_too_small left) ≡ run (show_checks h output scratch) left
    scratch_short s = must_yes _ _ _ _ (le-leb _ _ o) (must_no _ _ _ _ (lt-leb _ _ s))

    module _ (s : h.scratch ≤ scratch) {t : Told} (et : t ≡ run (pay h.work ∷ []) left) where
      pub charged : {r : Told} → t ≡ r → r ≡ run (show_checks h output scratch) left
      charged q = must_yes _ _ _ _ (le-leb _ _ o) (must_yes _ _ _ _ (le-leb _ _ s) (sym q ∙ et))

pub ruleset showing = (output_short, scratch_short, charged, rules)

-- the handle before them
module _ (v : Seen) (l : Limits) (h : Handle) {b : Bool} (eb : b ≡ is_handle v l h) where
  pub forged : (output scratch left : ℕ) → b ≡ false → Err (leaving invalid left) ≡ run (decode_checks v l h output scratch) left
  forged output scratch left q = must_no _ invalid left _ (sym eb ∙ q)

  module _ (is : b ≡ true) where
    pub handle_showable : HandleShowable v h
    handle_showable = checked v l h (sym eb ∙ is)

    pub handle_passed : (output scratch left : ℕ) {r : Told} → r ≡ run (show_checks h output scratch) left → r ≡ run (decode_checks v l h output scratch) left
    handle_passed output scratch left e = must_yes _ _ _ _ (sym eb ∙ is) e

pub ruleset decoding = (forged, handle_showable, handle_passed, not-true, not-false, rules)

-- an inspection, then the picture that it found
module _ (v : Seen) (page : ℕ) (l : Limits) (left : ℕ) where
  pub not_inspected : (output scratch : ℕ) {r : Refused} → Err r ≡ inspected_of v page l left → Err r ≡ both_of v page l output scratch left
  unfolding both_checks
  not_inspected output scratch q =
      let told = checks_refused (run (inspect_checks v page l) left) (inspected_with (handle_of v page)) q in
      rw (stops (inspect_checks v page l) (show_checks (handle_of v page) output scratch) left _ told)

  module _ {i : Inspected} (q : Ok i ≡ inspected_of v page l left) where
    abbrev h : Handle
    h = i.handle

    pub given_handle : h ≡ handle_of v page
    given_handle = (passed v page l left h i.left (sym q)).1

    pub inspected_showable : HandleShowable v h
    inspected_showable = given_showable v page l left h i.left (sym q)

    module _ (output scratch : ℕ) where
      both : {t : Told} → t ≡ run (show_checks h output scratch) i.left → t ≡ run (both_checks v page l output scratch) left
      unfolding both_checks
      both et =
          let told = (passed v page l left h i.left (sym q)).0 in
          et
          ∙ ap (λ (g : Handle). run (show_checks g output scratch) i.left) given_handle
          ∙ sym (then (inspect_checks v page l) (show_checks (handle_of v page) output scratch) left i.left told)

      pub not_shown : {r : Refused} → Err r ≡ run (show_checks h output scratch) i.left → Err r ≡ both_of v page l output scratch left
      not_shown z = rw (← both z)

      pub shown_too : {w : ℕ} → Ok w ≡ run (show_checks h output scratch) i.left → Ok (inspected_with h w) ≡ both_of v page l output scratch left
      shown_too {w} z = ap (λ (g : Handle). Ok (inspected_with g w)) given_handle ∙ rw (← both z)

    module _ (x old : List ℕ) where
      pub picture_there : x ≡ picture_over v h old → x ≡ picture_over v (handle_of v page) old
      picture_there y = y ∙ ap (λ (g : Handle). picture_over v g old) given_handle

      pub scratch_there : x ≡ cleared_over h old → x ≡ cleared_over (handle_of v page) old
      scratch_there y = y ∙ ap (λ (g : Handle). cleared_over g old) given_handle
