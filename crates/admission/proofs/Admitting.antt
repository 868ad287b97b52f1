-- What can refuse a reading, in order: each answer of the code is that of the list of checks.
use Prim.Native.Nat.{ℕ, ◌<◌, ◌≤◌}
use mathlib.Core.Path.{◌≡◌, refl, sym, ap, ◌∙◌}
use mathlib.Core.List.{List, [], ◌∷◌, ◌++◌}
use borrow.Author.Rules.{rules}
use borrow.Author.Tests.{le-leb, lt-leb}
use Rattle.checks.specs.Numbers.{limit, output_too_small, Verdict, Told, no_refusal, leaving}
use Rattle.checks.specs.Checks.{Check, pay, run, verdict, cost}
use Rattle.checks.specs.Sizes.{within}
use Rattle.checks.proofs.Rules.{must_no, must_yes, ended_by_free, goes_on_free, refuse, allow, all_fine}
use Rattle.checks.proofs.Sizes.{fits_is, over_is, or_none, or_some}
use Rattle.seen.specs.Seen.{Seen, map_checks}
use Rattle.seen.proofs.Maps.{map_free}
use Rattle.header.specs.Header.{limit_checks}
use Rattle.header.proofs.Orders.{limits_free}
use Rattle.header.specs.declared.Limits.{Limits}
use Rattle.front.specs.Front.{format_seen, found_of}
use Rattle.front.specs.declared.Found.{Found}
use Rattle.front.proofs.Fronts.{front_ends, front_goes_on}
use Rattle.front.proofs.Accepted.{readable}
use Rattle.picture.specs.Inner.{Readable}
use Rattle.picture.specs.declared.Format.{Format}
use Rattle.picture.specs.Picture.{scratch_of}
use Rattle.admission.specs.Admission.{picture_charge, buffer_checks, patchy_checks, admitted}
use Rattle.admission.specs.Inner.{charge_checks, admit_checks, admit_page_checks, room_checks, admitted_format, admitted_page}
use Rattle.admission.specs.declared.Room.{Room}
use Rattle.std.specs.Prelude.{Option, Result, Ok, Err, None}
use Rattle.std.specs.Option.{ok_or}
use Rattle.checks.specs.declared.Refusal.{Refusal}
use Rattle.checks.specs.declared.Refused.{Refused}

-- scratch within max_output, then the buffers
module _ (f : Format) (maxOutput : ℕ) (room : Room) (needed : ℕ) (e : needed ≡ scratch_of f) where
  pub scratch_large : maxOutput < needed → Err limit ≡ verdict (room_checks f maxOutput room)
  unfolding room_checks
  scratch_large h = refuse _ _ _ (lt-leb _ _ (rw e at h))

  module _ (a : needed ≤ maxOutput) where
    then_buffers : {r : Verdict} → r ≡ verdict (buffer_checks f room) → r ≡ verdict (room_checks f maxOutput room)
    unfolding room_checks
    then_buffers q = allow _ _ _ (le-leb _ _ (rw e at a)) q

    pub output_short : room.output < f.output → Err output_too_small ≡ verdict (room_checks f maxOutput room)
    unfolding buffer_checks
    output_short h = then_buffers (refuse _ _ _ (lt-leb _ _ h))

    module _ (b : f.output ≤ room.output) where
      pub scratch_short : room.scratch < needed → Err output_too_small ≡ verdict (room_checks f maxOutput room)
      unfolding buffer_checks
      scratch_short h = then_buffers (allow _ _ _ (le-leb _ _ b) (refuse _ _ _ (lt-leb _ _ (rw e at h))))

      module _ (c : needed ≤ room.scratch) where
        pub quality_short : room.quality < f.segments → Err output_too_small ≡ verdict (room_checks f maxOutput room)
        unfolding buffer_checks
        quality_short h = then_buffers (allow _ _ _ (le-leb _ _ b) (allow _ _ _ (le-leb _ _ (rw e at c)) (refuse _ _ _ (lt-leb _ _ h))))

        pub room_enough : f.segments ≤ room.quality → no_refusal ≡ verdict (room_checks f maxOutput room)
        unfolding buffer_checks
        room_enough h = then_buffers (allow _ _ _ (le-leb _ _ b) (allow _ _ _ (le-leb _ _ (rw e at c)) (allow _ _ _ (le-leb _ _ h) all_fine)))

pub ruleset rooms = (scratch_large, output_short, scratch_short, quality_short, room_enough, rules)

-- the charge
module _ (v : Seen) (f : Format) (left : ℕ) {s : Option ℕ} (es : s ≡ within (picture_charge v f)) where
  over_limit : s ≡ None → Err (leaving limit left) ≡ run (charge_checks v f) left
  unfolding charge_checks
  over_limit q = must_no _ _ _ _ (lt-leb _ _ (over_is (picture_charge v f) es q))

  pub work_over : {e r : Refused} → e ≡ leaving limit left → Err r ≡ ok_or s e → Err r ≡ run (charge_checks v f) left
  work_over {e} z q = let o = or_none s e q in rw (o.1, z) (over_limit o.0)

  pub work_charged : {r : Told} {n : ℕ} (e : Refused) → Ok n ≡ ok_or s e → r ≡ run (pay n ∷ []) left → r ≡ run (charge_checks v f) left
  unfolding charge_checks
  work_charged {n = n} e q k =
      let t = fits_is (picture_charge v f) n es (or_some s e q) in
      must_yes _ _ _ _ (le-leb _ _ t.small) (k ∙ ap (λ (x : ℕ). run (pay x ∷ []) left) t.is)

-- the buffers, then the charge
room_free : (f : Format) (maxOutput : ℕ) (room : Room) → cost (room_checks f maxOutput room) ≡ 0
unfolding cost room_checks buffer_checks
room_free f maxOutput room = refl

module _ (v : Seen) (f : Format) (maxOutput : ℕ) (room : Room) (left : ℕ) where
  pub room_refused : {e : Refusal} {r : Refused} → Err e ≡ verdict (room_checks f maxOutput room) → r ≡ leaving e left
      → Err r ≡ admitted_format v f maxOutput room left
  unfolding admit_checks
  room_refused q z = rw (← ended_by_free (room_checks f maxOutput room) (charge_checks v f) left (room_free f maxOutput room) q, z)

  module _ {y : Unit {0}} (fine : Ok y ≡ verdict (room_checks f maxOutput room)) where
    after_room : {t : Told} → t ≡ run (charge_checks v f) left → t ≡ run (admit_checks v f maxOutput room) left
    unfolding admit_checks
    after_room e = goes_on_free (room_checks f maxOutput room) (charge_checks v f) left (room_free f maxOutput room) fine e

    pub charge_refused : {r : Refused} → Err r ≡ run (charge_checks v f) left → Err r ≡ admitted_format v f maxOutput room left
    charge_refused q = rw (← after_room q)

    pub charge_passed : {u : ℕ} → Ok u ≡ run (charge_checks v f) left → Ok (record { format = f; left = u }) ≡ admitted_format v f maxOutput room left
    charge_passed q = rw (← after_room q)

-- the front part, then what its format asks for
module _ (v : Seen) (page : ℕ) (l : Limits) (room : Room) (left : ℕ) where
  pub front_refused : {r : Refused} → Err r ≡ found_of v page l left → Err r ≡ admitted_page v page l room left
  unfolding admit_page_checks
  front_refused q = rw (front_ends v page l left (admit_checks v (format_seen v page) l.max_output room) q)

  module _ {f : Found} (q : Ok f ≡ found_of v page l left) where
    pub format_readable : Readable v f.format
    format_readable = readable v page l left f.left f.format (sym q)

    pub format_admitted : {a : Result Found Refused} → a ≡ admitted_format v f.format l.max_output room f.left → a ≡ admitted_page v page l room left
    unfolding admit_page_checks
    format_admitted e =
        let z = front_goes_on v page l left (admit_checks v (format_seen v page) l.max_output room) q in
        rw z.0 (rw z.1 at e)

-- the limits and the map before it
module _ (v : Seen) (map page : ℕ) (l : Limits) (room : Room) (left : ℕ) where
  abbrev after_limits : List Check
  after_limits = map_checks v.size map ++ admit_page_checks v page l room

  pub limits_refused : {e : Refusal} {r : Refused} → Err e ≡ verdict (limit_checks v.size page l) → r ≡ leaving e left
      → Err r ≡ admitted v map page l room left
  unfolding patchy_checks admit_page_checks admit_checks room_checks charge_checks
  limits_refused q z = rw (← ended_by_free (limit_checks v.size page l) after_limits left (limits_free v.size page l) q, z)

  module _ {y : Unit {0}} (passed : Ok y ≡ verdict (limit_checks v.size page l)) where
    after_limits_lem : {t : Told} → t ≡ run after_limits left → t ≡ run (patchy_checks v map page l room) left
    unfolding patchy_checks admit_page_checks admit_checks room_checks charge_checks
    after_limits_lem e = goes_on_free (limit_checks v.size page l) after_limits left (limits_free v.size page l) passed e

    pub map_refused : {e : Refusal} {r : Refused} → Err e ≡ verdict (map_checks v.size map) → r ≡ leaving e left → Err r ≡ admitted v map page l room left
    map_refused q z = rw (← after_limits_lem (ended_by_free (map_checks v.size map) (admit_page_checks v page l room) left (map_free v.size map) q), z)

    pub page_admitted : {a : Result Found Refused} {z : Unit {0}} → Ok z ≡ verdict (map_checks v.size map) → a ≡ admitted_page v page l room left
        → a ≡ admitted v map page l room left
    page_admitted q e = rw (← after_limits_lem (goes_on_free (map_checks v.size map) (admit_page_checks v page l room) left (map_free v.size map) q refl)) e
