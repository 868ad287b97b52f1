-- The quality of a segment by the answers of its place and of its packets, and what it is charged.
use Prim.Native.Nat.{ℕ, ◌<◌}
use mathlib.Core.Path.{◌≡◌, refl, ap, ◌∙◌}
use mathlib.Core.Bool.{Bool, true, false}
use mathlib.Core.List.{List}
use borrow.Author.Rules.{rules}
use lib.Dec.{eqb}
use Rattle.lists.specs.Lists.{pick}
use Rattle.std.specs.Prelude.{Option, Some, Ok, Err}
use Rattle.checks.specs.Numbers.{Verdict, number_of, truncated}
use Rattle.checks.specs.Checks.{verdict}
use Rattle.checks.specs.Sizes.{within}
use Rattle.checks.specs.declared.Refusal.{Refusal}
use Rattle.checks.specs.declared.Refusal.TheVariants as RefusalIs
use Rattle.checks.specs.contracts.Refusal.{the_type}
use denote.Enum.Bare.{sameb}
use Rattle.seen.specs.Seen.{Seen, seen}
use Rattle.packets.specs.Packets.{part}
use Rattle.geometry.specs.Costs.{fee}
use Rattle.picture.specs.declared.Format.{Format}
use Rattle.picture.specs.Picture.{area_of}
use Rattle.picture.specs.Inner.{Readable}
use Rattle.plan.specs.Plan.{stored_of, place_is, fee_of}
use Rattle.plan.specs.declared.Stored.{Stored}
use Rattle.plan.proofs.Planning.{Located, located, not_located}
use Rattle.logluv_segment.specs.Segment.{fill_checks, stored_checks}
use Rattle.logluv_segment.specs.Inner.{InFile}
use Rattle.logluv_segment.proofs.Checking.{located_in, stored_checks_lem}
use Rattle.quality.specs.Quality.{lost_by, judged, charge_is, quality_is, segment_charge}
use Rattle.quality.specs.declared.Quality.TheVariants.{Good, Missing, Outside, Rejected}

-- the derived test of a refusal is that of its number
by_number : (e : Refusal) → sameb the_type e truncated ≡ eqb (number_of e) (number_of truncated)
by_number RefusalIs.Truncated = refl
by_number RefusalIs.Invalid = refl
by_number RefusalIs.Unsupported = refl
by_number RefusalIs.Limit = refl
by_number RefusalIs.PageNotFound = refl
by_number RefusalIs.OutputTooSmall = refl
by_number RefusalIs.Budget = refl
by_number RefusalIs.NotArrived = refl
by_number RefusalIs.MapSize = refl
by_number RefusalIs.ReceiverTooSmall = refl
by_number RefusalIs.NoSuchBlock = refl
by_number RefusalIs.BlockSize = refl

module _ (v : Seen) (f : Format) (k : ℕ) where
  -- a place that is not there
  module _ {e : Refusal} (q : Err e ≡ place_is v f k) where
    lost : lost_by e ≡ quality_is v f k
    unfolding quality_is
    lost = rw (not_located v f k q)

    pub is_outside : true ≡ sameb the_type e truncated → Outside ≡ quality_is v f k
    is_outside t = ap (λ (b : Bool). pick b Outside Missing) (t ∙ by_number e) ∙ lost

    pub is_missing : false ≡ sameb the_type e truncated → Missing ≡ quality_is v f k
    is_missing t = ap (λ (b : Bool). pick b Outside Missing) (t ∙ by_number e) ∙ lost

    pub one_unit : Some 1 ≡ within (segment_charge v f k)
    unfolding quality_is within
    one_unit = rw (not_located v f k q) (by (eqb (number_of e) (number_of truncated)))
      where
        by : (t : Bool) → Some 1 ≡ within (charge_is (pick t Outside Missing) (fee_of v f k))
        by true = refl
        by false = refl

  -- the fee, be the packets accepted or not
  pub whole_fee : {s : Stored} → Ok s ≡ place_is v f k → {area : ℕ} → area ≡ area_of f k → {r : Option ℕ} → r ≡ within (fee f.mono s.count area)
      → r ≡ within (segment_charge v f k)
  unfolding quality_is
  whole_fee q ea {r} e =
      let here = located v f k q in
      rw here.passed (by (verdict (stored_checks v f k)) (rw (← ea, ← here.count_is) e))
    where
      by : (t : Verdict) → r ≡ within (fee_of v f k) → r ≡ within (charge_is (judged (Ok tt) t (stored_of v f k)) (fee_of v f k))
      by (Ok x) e = e
      by (Err n) e = e

-- where the stored bytes are there, the packets decide
module _ (file map : List ℕ) (f : Format) (k : ℕ) {s : Stored} (q : Ok s ≡ place_is (seen file map) f k) where
  here : Located (seen file map) f k s.offset s.count
  here = located (seen file map) f k q

  pub is_in_file : Readable (seen file map) f → k < f.segments → InFile file f k s.offset s.count
  is_in_file ok h = located_in file map f k s.offset s.count here ok h

  by_packets : {t : Verdict} → t ≡ verdict (fill_checks f k (part file s.offset s.count)) → judged (Ok tt) t s ≡ quality_is (seen file map) f k
  unfolding quality_is
  by_packets e = rw (here.passed, stored_checks_lem file map f k s.offset s.count here, ← e, ← here.offset_is, ← here.count_is)

  pub is_good : {y : Unit {0}} → Ok y ≡ verdict (fill_checks f k (part file s.offset s.count)) → Good s ≡ quality_is (seen file map) f k
  is_good e = by_packets e

  pub is_rejected : {e : Refusal} → Err e ≡ verdict (fill_checks f k (part file s.offset s.count)) → Rejected ≡ quality_is (seen file map) f k
  is_rejected e = by_packets e

pub ruleset judging = (is_in_file, is_good, is_rejected, one_unit, rules)
