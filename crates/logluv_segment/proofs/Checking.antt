-- One segment of a strict inspection: the plan charges nothing, then the fee, then the packets of the stored bytes.
use Prim.Native.Nat.{ℕ, ◌+◌, ◌-◌, ◌<◌}
use mathlib.Core.Path.{◌≡◌, sym, ap}
use mathlib.Core.List.{List, [], ◌∷◌}
use native.Mathlib.Nat.{add-sub_cancel_left}
use lib.ListN.{take, drop}
use borrow.Author.Rules.{rules}
use Rattle.std.specs.Prelude.{Ok, Err}
use Rattle.checks.specs.Numbers.{Verdict, Told, leaving}
use Rattle.checks.specs.Checks.{Check, pay, run, verdict, cost}
use Rattle.checks.specs.declared.Refusal.{Refusal}
use Rattle.checks.specs.declared.Refused.{Refused}
use Rattle.checks.proofs.Exact.{run_fine, run_refused}
use Rattle.checks.proofs.Rules.{ended_by, goes_on, ended_by_free, goes_on_free}
use Rattle.seen.specs.Seen.{Seen, seen}
use Rattle.seen.proofs.Words.{bytes_there}
use Rattle.packets.specs.Packets.{packet_checks, part}
use Rattle.packets.proofs.Laws.{packets_free}
use Rattle.picture.specs.declared.Format.{Format}
use Rattle.picture.specs.Picture.{needed_of}
use Rattle.picture.specs.Inner.{Readable}
use Rattle.plan.specs.Plan.{plan_checks, plan_is}
use Rattle.plan.specs.declared.Plan.{Plan}
use Rattle.plan.proofs.Planning.{Located, range_is_there, plan_free, PlannedSo, not_planned, planned_so, plan_located}
use Rattle.logluv_segment.specs.Segment.{fill_checks, stored, stored_checks, fee_checks, segment_checks}
use Rattle.logluv_segment.specs.Inner.{InFile}

-- packets charge nothing
pub fill_free : (f : Format) (k : ℕ) (bytes : List ℕ) → cost (fill_checks f k bytes) ≡ 0
fill_free f k bytes = packets_free f.block_width bytes 0 (needed_of f k)

pub stored_free : (v : Seen) (f : Format) (k : ℕ) → cost (stored_checks v f k) ≡ 0
unfolding stored_checks
stored_free v f k = fill_free f k (stored v f k)

-- the bytes of a segment that is located lie in the file, and what is seen of them is that part of it
module _ (file map : List ℕ) (f : Format) (k offset count : ℕ) (here : Located (seen file map) f k offset count) where
  pub located_in : Readable (seen file map) f → k < f.segments → InFile file f k offset count
  located_in ok h = record { valid = ok.valid; of_picture = h; range_inside = (range_is_there (seen file map) f k here).in_file }

  pub stored_is : stored (seen file map) f k ≡ part file offset count
  unfolding stored
  stored_is = rw (← here.offset_is, ← here.count_is) (bytes_there file map count offset (range_is_there (seen file map) f k here))

  pub stored_checks_lem : stored_checks (seen file map) f k ≡ fill_checks f k (part file offset count)
  unfolding stored_checks
  stored_checks_lem = ap (fill_checks f k) stored_is

-- the part of the file that is lent
module _ (file : List ℕ) (f : Format) (k offset count : ℕ) where
  pub packets_told : {r : Verdict} (needed : ℕ) → needed ≡ needed_of f k
      → r ≡ verdict (packet_checks f.block_width (take (offset + count - offset) (drop offset file)) 0 needed)
      → r ≡ verdict (fill_checks f k (part file offset count))
  packets_told needed en e = rw (add-sub_cancel_left, en) at e

  pub some_stride : InFile file f k offset count → 0 < f.block_width
  some_stride ok = ok.valid.some_block_width

pub ruleset packets = (packets_told, some_stride, rules)

-- the plan, the fee, the packets
module _ (file map : List ℕ) (f : Format) (m k left : ℕ) where
  abbrev answer : Told
  answer = run (segment_checks (seen file map) f m k) left

  free : cost (plan_checks (seen file map) f m k) ≡ 0
  free = plan_free (seen file map) f m k

  pub plan_refused : {e : Refusal} {r : Refused} → Err e ≡ plan_is (seen file map) f m k → r ≡ leaving e left → Err r ≡ answer
  unfolding segment_checks
  plan_refused q z =
      let refused = sym (not_planned (seen file map) f m k q) in
      rw z (ended_by_free (plan_checks (seen file map) f m k) (fee_checks (seen file map) f k) left free refused)

  module _ {p : Plan} (q : Ok p ≡ plan_is (seen file map) f m k) where
    so : PlannedSo (seen file map) f m k p
    so = planned_so (seen file map) f m k q

    here : Located (seen file map) f k p.stored.offset p.stored.count
    here = plan_located (seen file map) f m k p so

    pub plan_in_file : Readable (seen file map) f → k < f.segments → InFile file f k p.stored.offset p.stored.count
    plan_in_file ok h = located_in file map f k p.stored.offset p.stored.count here ok h

    abbrev fill : List Check
    fill = fill_checks f k (part file p.stored.offset p.stored.count)

    checks_are : pay p.fee ∷ fill ≡ fee_checks (seen file map) f k
    checks_are = rw (← stored_checks_lem file map f k p.stored.offset p.stored.count here, so.is)

    plan_passed : {t : Told} → t ≡ run (pay p.fee ∷ fill) left → t ≡ answer
    unfolding segment_checks
    plan_passed e = goes_on_free (plan_checks (seen file map) f m k) (fee_checks (seen file map) f k) left free (sym so.passed) (rw checks_are at e)

    pub fee_refused : {r : Refused} → Err r ≡ run (pay p.fee ∷ []) left → Err r ≡ answer
    fee_refused z = plan_passed (ended_by (pay p.fee ∷ []) fill left z)

    module _ {u : ℕ} (paid : Ok u ≡ run (pay p.fee ∷ []) left) where
      fee_taken : {t : Told} → t ≡ run fill u → t ≡ answer
      fee_taken e = plan_passed (goes_on (pay p.fee ∷ []) fill left paid e)

      pub packets_refused : {e : Refusal} {r : Refused} → Err e ≡ verdict fill → r ≡ leaving e u → Err r ≡ answer
      packets_refused {e} z i = rw i (fee_taken (sym (run_refused fill u e (fill_free f k _) (sym z))))

      pub packets_fine : {y : Unit {0}} → Ok y ≡ verdict fill → Ok u ≡ answer
      packets_fine z = fee_taken (sym (run_fine fill u (fill_free f k _) (sym z)))
