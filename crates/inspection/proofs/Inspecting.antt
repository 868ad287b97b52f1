-- Strict inspection: the walk over the segments, the handle after it, and what comes before them.
use Prim.Native.Nat.{ℕ, suc, ◌+◌, ◌-◌, ◌<◌, ◌≤◌}
use mathlib.Core.Path.{◌≡◌, refl, sym, ◌∙◌}
use mathlib.Core.Bool.{Bool, false}
use mathlib.Core.List.{List, ◌++◌}
use native.Mathlib.Omega.{arith}
use native.Mathlib.Nat.{sub-zero}
use native.Mathlib.Numerals.{add-one}
use borrow.Author.Rules.{rules}
use Rattle.checks.specs.Checks.{Check, run, verdict, cost}
use Rattle.checks.specs.Exact.{Exact}
use Rattle.checks.proofs.Exact.{accepted, then, stops}
use Rattle.checks.proofs.Rules.{ended_by_free, goes_on_free}
use Rattle.checks.specs.Sizes.{most64}
use Rattle.seen.specs.Seen.{Seen}
use Rattle.header.specs.Header.{limit_checks}
use Rattle.header.proofs.Orders.{limits_free}
use Rattle.header.specs.declared.Limits.{Limits}
use Rattle.front.specs.Front.{format_seen, found_of}
use Rattle.picture.specs.Inner.{Readable}
use Rattle.picture.specs.declared.Format.{Format}
use Rattle.front.specs.declared.Found.{Found}
use Rattle.front.proofs.Fronts.{front_ends, front_goes_on}
use Rattle.front.proofs.Accepted.{readable}
use Rattle.picture.specs.Picture.{scratch_of}
use Rattle.logluv_segment.specs.Segment.{segment_checks, each_segment}
use Rattle.logluv_segment.proofs.Fees.{segments_cost}
use Rattle.inspection.specs.Inspection.{handle_with, segments_checks, work_of, inspect_checks, inspected_of, is_handle}
use Rattle.handle.specs.Handle.{same_handle}
use Rattle.inspection.specs.Inner.{inspected_format, picture_checks, inspected_page}
use Rattle.handle.specs.declared.Handle.{Handle}
use Rattle.handle.specs.declared.Inspected.{Inspected}
use Rattle.checks.specs.Numbers.{leaving}
use Rattle.checks.specs.declared.Refusal.{Refusal}
use Rattle.checks.specs.declared.Refused.{Refused}
use Rattle.std.specs.Prelude.{Result, Ok, Err}

-- k segments are checked: what is left of the list decides as the whole does
pub record Checking (v : Seen) (f : Format) (maxOutput left k rest : ℕ) : Type 0 where
  pub within : k ≤ f.segments
  pub same : run (segments_checks v f maxOutput) left ≡ run (each_segment v f maxOutput k (f.segments - k)) rest

pub checking_none : (v : Seen) (f : Format) (maxOutput left : ℕ) → Checking v f maxOutput left 0 left
unfolding segments_checks
checking_none v f maxOutput left = record { within = omega arith; same = rw (sub-zero f.segments) }

module _ (v : Seen) (f : Format) (maxOutput left k rest : ℕ) (s : Checking v f maxOutput left k rest) where
  module _ (h : k < f.segments) where
    after : List Check
    after = each_segment v f maxOutput (k + 1) (f.segments - (k + 1))

    opened : run (segments_checks v f maxOutput) left ≡ run (segment_checks v f maxOutput k ++ after) rest
    unfolding each_segment after
    opened =
        let e : f.segments - k ≡ suc (f.segments - (k + 1)) = omega arith in
        s.same ∙ rw (e, add-one k)

    pub segment_refused : {r : Refused} → Err r ≡ run (segment_checks v f maxOutput k) rest → Err r ≡ run (segments_checks v f maxOutput) left
    segment_refused q = sym (opened ∙ stops (segment_checks v f maxOutput k) after rest _ (sym q))

    pub checking_more : {u : ℕ} → Ok u ≡ run (segment_checks v f maxOutput k) rest → Checking v f maxOutput left (k + 1) u
    unfolding after
    checking_more q = record { within = omega arith; same = opened ∙ then (segment_checks v f maxOutput k) after rest _ (sym q) }

  pub checking_all : f.segments ≤ k → Ok rest ≡ run (segments_checks v f maxOutput) left
  unfolding run each_segment
  checking_all h =
      let e : f.segments - k ≡ 0 = omega arith in
      sym (s.same ∙ rw e)

-- the handle of a format, whose scratch the code computed
pub handle_made : (f : Format) (page scratch work : ℕ) → scratch ≡ scratch_of f
    → record { format = f; page = page; scratch = scratch; work = work } ≡ handle_with f page work
handle_made f page scratch work e = rw e

pub ruleset making = (handle_made, rules)

-- what the segments took is the sum of their fees
module _ (v : Seen) (f : Format) (maxOutput left : ℕ) where
  pub segments_refused : {r : Refused} (page : ℕ) → Err r ≡ run (segments_checks v f maxOutput) left → Err r ≡ inspected_format v f page maxOutput left
  segments_refused page q = rw (← q)

  module _ {u : ℕ} (q : Ok u ≡ run (segments_checks v f maxOutput) left) where
    exact : Exact (segments_checks v f maxOutput) left u
    exact = (accepted (segments_checks v f maxOutput) left u).0 (sym q)

    cost_is : cost (segments_checks v f maxOutput) ≡ work_of v f
    unfolding segments_checks
    cost_is = segments_cost v f maxOutput f.segments 0

    pub took : u ≤ left
    took = omega (arith, exact.rest)

    pub segments_passed : (page : ℕ) {h : Handle} → h ≡ handle_with f page (left - u)
        → Ok (record { handle = h; left = u }) ≡ inspected_format v f page maxOutput left
    segments_passed page e =
        let w : left - u ≡ work_of v f = omega (arith, exact.covered, exact.rest, cost_is) in
        rw (← q, e, w)

-- the front part, then the segments
module _ (v : Seen) (page : ℕ) (l : Limits) (left : ℕ) where
  pub front_refused : {r : Refused} → Err r ≡ found_of v page l left → Err r ≡ inspected_page v page l left
  unfolding picture_checks
  front_refused q = rw (front_ends v page l left (segments_checks v (format_seen v page) l.max_output) q)

  module _ {f : Found} (q : Ok f ≡ found_of v page l left) where
    pub format_readable : Readable v f.format
    format_readable = readable v page l left f.left f.format (sym q)

    pub format_inspected : {i : Result Inspected Refused} → i ≡ inspected_format v f.format page l.max_output f.left → i ≡ inspected_page v page l left
    unfolding picture_checks
    format_inspected e =
        let z = front_goes_on v page l left (segments_checks v (format_seen v page) l.max_output) q in
        rw z.0 (rw z.1 at e)

-- the limits before it
module _ (v : Seen) (page : ℕ) (l : Limits) (left : ℕ) where
  pub limits_refused : {e : Refusal} {r : Refused} → Err e ≡ verdict (limit_checks v.size page l) → r ≡ leaving e left → Err r ≡ inspected_of v page l left
  unfolding inspect_checks picture_checks
  limits_refused q z = rw (← ended_by_free (limit_checks v.size page l) (picture_checks v page l) left (limits_free v.size page l) q, z)

  pub limits_passed : {y : Unit {0}} {i : Result Inspected Refused} → Ok y ≡ verdict (limit_checks v.size page l) → i ≡ inspected_page v page l left
      → i ≡ inspected_of v page l left
  unfolding inspect_checks picture_checks
  limits_passed q e = rw (← goes_on_free (limit_checks v.size page l) (picture_checks v page l) left (limits_free v.size page l) q refl) e

-- the handle that an inspection gives
module _ (v : Seen) (l : Limits) (h : Handle) where
  pub none_given : {r : Refused} → Err r ≡ inspected_of v h.page l most64 → false ≡ is_handle v l h
  unfolding is_handle
  none_given q = rw (← q)

  pub compared : {b : Bool} {i : Inspected} → Ok i ≡ inspected_of v h.page l most64 → b ≡ same_handle i.handle h → b ≡ is_handle v l h
  unfolding is_handle
  compared q e = rw (← q) e
