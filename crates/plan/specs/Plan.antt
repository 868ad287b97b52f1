-- The plan of a segment: its two entries, its range, its area and its fee, in order (rules 4.2 a to e).
use Rattle.std.specs.Prelude.{ℕ, List, [], ◌∷◌, ◌++◌, leb, Result}
use Rattle.checks.specs.Numbers.{limit}
use Rattle.checks.specs.Checks.{Check, must, verdict, giving}
use Rattle.checks.specs.Sizes.{most64}
use Rattle.checks.specs.declared.Refusal.{Refusal}
use Rattle.seen.specs.Seen.{Seen, there}
use Rattle.entries.specs.Values.{size_of, place_of, value_at}
use Rattle.geometry.specs.Costs.{scratch_for, fee}
use Rattle.picture.specs.declared.Format.{Format}
use Rattle.picture.specs.Picture.{area_of}
use Rattle.plan.specs.declared.Stored.{Stored}
use Rattle.plan.specs.declared.Plan.{Plan}

module _ (v : Seen) (f : Format) (k : ℕ) where
  -- where the stored bytes begin, and how many there are
  abbrev pub offset_of : ℕ
  offset_of = value_at v f.big f.offsets k

  abbrev pub count_of : ℕ
  count_of = value_at v f.big f.counts k

  -- the entries of the two, and the range (rules 4.2 a to c)
  abbrev pub offset_entry : List Check
  offset_entry = there v (place_of v f.big f.offsets k) (size_of v f.big f.offsets)

  abbrev pub count_entry : List Check
  count_entry = there v (place_of v f.big f.counts k) (size_of v f.big f.counts)

  abbrev pub range_there : List Check
  range_there = there v offset_of count_of

  unfoldable pub place_checks : List Check
  place_checks = offset_entry ++ (count_entry ++ range_there)

  abbrev pub stored_of : Stored
  stored_of = record { offset = offset_of; count = count_of }

  abbrev pub place_is : Result Stored Refusal
  place_is = giving (verdict place_checks) stored_of

  -- what it costs (rule 5.3)
  abbrev pub fee_of : ℕ
  fee_of = fee f.mono count_of (area_of f k)

  abbrev pub plan_of : Plan
  plan_of = record { stored = stored_of; fee = fee_of }

module _ (v : Seen) (f : Format) (maxOutput k : ℕ) where
  -- (p + b)A within max_output, the fee within 2^64-1 (rules 4.2 d and e)
  unfoldable pub area_checks : List Check
  area_checks = must (leb (scratch_for f.mono (area_of f k)) maxOutput) limit ∷ must (leb (fee_of v f k) most64) limit ∷ []

  unfoldable pub plan_checks : List Check
  plan_checks = place_checks v f k ++ area_checks

  abbrev pub plan_is : Result Plan Refusal
  plan_is = giving (verdict plan_checks) (plan_of v f k)
