-- The quality of a segment under a delivery map: its number, what it is charged, and what it shows.
use Rattle.std.specs.Prelude.{ℕ, List, [], eqb, Ok, Err}
use Rattle.lists.specs.Lists.{pick}
use Rattle.checks.specs.Numbers.{Verdict, number_of, truncated}
use Rattle.checks.specs.Checks.{verdict}
use Rattle.checks.specs.declared.Refusal.{Refusal}
use Rattle.seen.specs.Seen.{Seen}
use Rattle.picture.specs.declared.Format.{Format}
use Rattle.plan.specs.Plan.{place_checks, stored_of, fee_of}
use Rattle.plan.specs.declared.Stored.{Stored}
use Rattle.logluv_segment.specs.Segment.{stored_checks}
use Rattle.showing.specs.Shown.{shown}
use Rattle.quality.specs.declared.Quality.{Quality}
use Rattle.quality.specs.declared.Quality.TheVariants.{Good, Missing, Outside, Rejected}

-- stored bytes that are not there: outside the file, or in it and not arrived
abbrev pub lost_by : Refusal → Quality
lost_by e = pick (eqb (number_of e) (number_of truncated)) Outside Missing

-- the first that applies: an entry or the range outside the file, or there and not arrived, then packets not accepted (rule 8.6)
abbrev pub judged : Verdict → Verdict → Stored → Quality
judged (Ok x) (Ok y) stored = Good stored
judged (Ok x) (Err e) stored = Rejected
judged (Err e) packets stored = lost_by e

-- the number of each case, as it stands in the quality buffer (rule 8.6)
abbrev pub code_is : Quality → ℕ
code_is (Good stored) = 1
code_is Missing = 2
code_is Outside = 3
code_is Rejected = 4

-- one unit where the stored bytes could not be read, else the fee (rule 5.6)
abbrev pub charge_is : Quality → ℕ → ℕ
charge_is (Good stored) fee = fee
charge_is Missing fee = 1
charge_is Outside fee = 1
charge_is Rejected fee = fee

-- the bytes of a good segment. Of any other there are none, and where a byte is wanted that is not there it is 0 (rule 8.7)
abbrev pub where_good : Quality → List ℕ → List ℕ
where_good (Good stored) bytes = bytes
where_good Missing bytes = []
where_good Outside bytes = []
where_good Rejected bytes = []

module _ (v : Seen) (f : Format) (k : ℕ) where
  unfoldable pub quality_is : Quality
  quality_is = judged (verdict (place_checks v f k)) (verdict (stored_checks v f k)) (stored_of v f k)

  abbrev pub code_of : ℕ
  code_of = code_is quality_is

  abbrev pub segment_charge : ℕ
  segment_charge = charge_is quality_is (fee_of v f k)

  -- what segment k shows in the picture
  abbrev pub shows_of : List ℕ
  shows_of = where_good quality_is (shown v f k)
