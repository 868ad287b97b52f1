-- Where a segment's stored bytes lie, and its fee: each answer of the code is that of the checks.
use Prim.Native.Nat.{ℕ, ◌<◌, ◌≤◌}
use mathlib.Core.Path.{◌≡◌, refl, sym, ap, ◌∙◌}
use mathlib.Core.List.{List, ◌++◌}
use native.Mathlib.Omega.{arith}
use Rattle.std.specs.Prelude.{Option, Some, None, Result, Ok, Err}
use Rattle.std.specs.Option.{ok_or}
use Rattle.checks.specs.Numbers.{limit, Verdict, no_refusal}
use Rattle.checks.specs.Checks.{Check, verdict, giving, cost, Holds}
use Rattle.checks.specs.Sizes.{within, most64}
use Rattle.checks.specs.declared.Refusal.{Refusal}
use Rattle.checks.proofs.Exact.{fine, holds_then, verdict_then, verdict_stops}
use Rattle.checks.proofs.Rules.{refused_before, gives_after, tests_refused, tests_passed, verdicts}
use Rattle.checks.proofs.Sizes.{fits_is, over_is}
use Rattle.seen.specs.Seen.{Seen, there, There}
use Rattle.seen.proofs.Words.{holds_there}
use Rattle.entries.specs.Values.{count_at, value_is}
use Rattle.entries.proofs.EntryValues.{value_stops, value_is_lem}
use Rattle.geometry.specs.Costs.{scratch_for, fee}
use Rattle.picture.specs.declared.Format.{Format}
use Rattle.picture.specs.Picture.{area_of}
use Rattle.picture.specs.Inner.{Readable}
use Rattle.plan.specs.Plan.{offset_of, count_of, offset_entry, count_entry, range_there, place_checks, stored_of, place_is, fee_of, plan_of, area_checks, plan_checks, plan_is}
use Rattle.plan.specs.declared.Stored.{Stored}
use Rattle.plan.specs.declared.Plan.{Plan}

-- each segment has an offset and a count
module _ (v : Seen) (f : Format) (k : ℕ) (ok : Readable v f) (h : k < f.segments) where
  pub offset_listed : k < count_at v f.big f.offsets
  offset_listed = omega (arith, ok.an_offset_each)

  pub count_listed : k < count_at v f.big f.counts
  count_listed = omega (arith, ok.a_count_each)

-- the place of a segment's stored bytes
module _ (v : Seen) (f : Format) (k : ℕ) where
  abbrev entries_rest : List Check
  entries_rest = count_entry v f k ++ range_there v f k

  pub offset_refused : {e : Refusal} → Err e ≡ value_is v f.big f.offsets k → Err e ≡ place_is v f k
  unfolding place_checks
  offset_refused q = refused_before (offset_entry v f k) entries_rest _ (sym (value_stops v f.big f.offsets k q))

  module _ {offset : ℕ} (found : Ok offset ≡ value_is v f.big f.offsets k) where
    after_offset : {r : Result Stored Refusal} → r ≡ giving (verdict entries_rest) (stored_of v f k) → r ≡ place_is v f k
    unfolding place_checks
    after_offset q = gives_after (offset_entry v f k) entries_rest _ (sym (value_is_lem v f.big f.offsets k found).0) q

    pub count_refused : {e : Refusal} → Err e ≡ value_is v f.big f.counts k → Err e ≡ place_is v f k
    count_refused q = after_offset (refused_before (count_entry v f k) (range_there v f k) _ (sym (value_stops v f.big f.counts k q)))

    module _ {count : ℕ} (counted : Ok count ≡ value_is v f.big f.counts k) where
      after_count : {t : Verdict} → t ≡ verdict (there v offset count) → giving t (record { offset = offset; count = count }) ≡ place_is v f k
      after_count q =
          let o = (value_is_lem v f.big f.offsets k found).1 in
          let c = value_is_lem v f.big f.counts k counted in
          after_offset (gives_after (count_entry v f k) (range_there v f k) _ (sym c.0) (rw (q, o, c.1)))

      pub range_refused : {e : Refusal} → Err e ≡ verdict (there v offset count) → Err e ≡ place_is v f k
      range_refused q = after_count q

      pub range_fine : {y : Unit {0}} → Ok y ≡ verdict (there v offset count) → Ok (record { offset = offset; count = count }) ≡ place_is v f k
      range_fine q = after_count q

-- what an answer says of the checks
pub record Located (v : Seen) (f : Format) (k offset count : ℕ) : Type 0 where
  pub passed : verdict (place_checks v f k) ≡ no_refusal
  pub offset_is : offset ≡ offset_of v f k
  pub count_is : count ≡ count_of v f k

module _ (v : Seen) (f : Format) (k : ℕ) where
  pub not_located : {e : Refusal} → Err e ≡ place_is v f k → verdict (place_checks v f k) ≡ Err e
  not_located q = tests_refused (verdict (place_checks v f k)) (stored_of v f k) _ q

  pub located : {s : Stored} → Ok s ≡ place_is v f k → Located v f k s.offset s.count
  located q =
      let z = tests_passed (verdict (place_checks v f k)) (stored_of v f k) _ q in
      record { passed = z.0; offset_is = ap (λ (s : Stored). s.offset) z.1; count_is = ap (λ (s : Stored). s.count) z.1 }

  -- a range that passes is there
  place_there : Holds (place_checks v f k) → There v (offset_of v f k) (count_of v f k)
  unfolding place_checks
  place_there h =
      let rest = (holds_then (offset_entry v f k) (count_entry v f k ++ range_there v f k) h).1 in
      holds_there v (offset_of v f k) (count_of v f k) (holds_then (count_entry v f k) (range_there v f k) rest).1

  pub range_is_there : {offset count : ℕ} → Located v f k offset count → There v offset count
  range_is_there a = rw (a.offset_is, a.count_is) (place_there ((fine (place_checks v f k)).0 a.passed))

-- the plan
module _ (v : Seen) (f : Format) (m k : ℕ) where
  pub place_refused : {e : Refusal} → Err e ≡ place_is v f k → Err e ≡ plan_is v f m k
  unfolding plan_checks
  place_refused q = rw (verdict_stops (place_checks v f k) (area_checks v f m k) _ (not_located v f k q))

  module _ {s : Stored} (q : Ok s ≡ place_is v f k) {area : ℕ} (ea : area ≡ area_of f k) where
    here : Located v f k s.offset s.count
    here = located v f k q

    stored_is : s ≡ stored_of v f k
    stored_is = (tests_passed (verdict (place_checks v f k)) (stored_of v f k) _ q).1

    place_passed : verdict (plan_checks v f m k) ≡ verdict (area_checks v f m k)
    unfolding plan_checks
    place_passed = verdict_then (place_checks v f k) (area_checks v f m k) here.passed

    module _ {room : ℕ} (em : room ≡ scratch_for f.mono area) where
      pub room_short : m < room → Err limit ≡ plan_is v f m k
      unfolding area_checks
      room_short h =
          let a : m < scratch_for f.mono (area_of f k) = rw (em, ea) at h in
          let b : Err limit ≡ verdict (area_checks v f m k) = search verdicts in
          rw (place_passed, ← b)

      module _ (h : room ≤ m) {fits : Option ℕ} (es : fits ≡ within (fee f.mono s.count area)) where
        room_enough : scratch_for f.mono (area_of f k) ≤ m
        room_enough = rw (em, ea) at h

        fee_is : fee f.mono s.count area ≡ fee_of v f k
        fee_is = rw (← here.count_is, ← ea)

        over_limit : fits ≡ None → Err limit ≡ plan_is v f m k
        unfolding area_checks
        over_limit z =
            let a = room_enough in
            let d : most64 < fee_of v f k = rw fee_is at (over_is (fee f.mono s.count area) es z) in
            let b : Err limit ≡ verdict (area_checks v f m k) = search verdicts in
            rw (place_passed, ← b)

        within_limit : {n : ℕ} → fits ≡ Some n → Ok (record { stored = s; fee = n }) ≡ plan_is v f m k
        unfolding area_checks
        within_limit {n} z =
            let t = fits_is (fee f.mono s.count area) n es z in
            let a = room_enough in
            let d : fee_of v f k ≤ most64 = rw fee_is at t.small in
            let b : no_refusal ≡ verdict (area_checks v f m k) = search verdicts in
            rw (place_passed, ← b, t.is, fee_is, stored_is)

        pub fee_over : {e : Refusal} → Err e ≡ ok_or fits limit → Err e ≡ plan_is v f m k
        fee_over {e} z = by fits refl z
          where
            by : (o : Option ℕ) → fits ≡ o → Err e ≡ ok_or o limit → Err e ≡ plan_is v f m k
            by None h q = let same : e ≡ limit = cc in ap Err same ∙ over_limit h
            by (Some n) h q = absurd cc

        pub fee_fits : {n : ℕ} → Ok n ≡ ok_or fits limit → Ok (record { stored = s; fee = n }) ≡ plan_is v f m k
        fee_fits {n} z = by fits refl z
          where
            by : (o : Option ℕ) → fits ≡ o → Ok n ≡ ok_or o limit → Ok (record { stored = s; fee = n }) ≡ plan_is v f m k
            by None h q = absurd cc
            by (Some x) h q = within_limit (h ∙ ap Some cc)

-- what a plan says of its checks, which charge nothing
pub record PlannedSo (v : Seen) (f : Format) (m k : ℕ) (p : Plan) : Type 0 where
  pub passed : verdict (plan_checks v f m k) ≡ no_refusal
  pub is : p ≡ plan_of v f k

module _ (v : Seen) (f : Format) (m k : ℕ) where
  pub plan_free : cost (plan_checks v f m k) ≡ 0
  unfolding plan_checks place_checks area_checks cost
  plan_free = refl

  pub not_planned : {e : Refusal} → Err e ≡ plan_is v f m k → verdict (plan_checks v f m k) ≡ Err e
  not_planned q = tests_refused (verdict (plan_checks v f m k)) (plan_of v f k) _ q

  pub planned_so : {p : Plan} → Ok p ≡ plan_is v f m k → PlannedSo v f m k p
  planned_so q = let z = tests_passed (verdict (plan_checks v f m k)) (plan_of v f k) _ q in record { passed = z.0; is = z.1 }

  -- the stored bytes of a segment that is planned are located
  pub plan_located : (p : Plan) → PlannedSo v f m k p → Located v f k p.stored.offset p.stored.count
  unfolding plan_checks
  plan_located p a =
      let h = (holds_then (place_checks v f k) (area_checks v f m k) ((fine (plan_checks v f m k)).0 a.passed)).0 in
      rw a.is (record { passed = (fine (place_checks v f k)).1 h; offset_is = refl; count_is = refl })
