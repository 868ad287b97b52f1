-- One directory: each return against the list of checks.
use Prim.Native.Nat.{ℕ, ◌+◌, ◌*◌, ◌≤◌}
use mathlib.Core.Path.{◌≡◌, refl, sym, ap, ◌∙◌}
use mathlib.Core.List.{List, [], ◌∷◌, ◌++◌, append_assoc}
use mathlib.Core.Bool.{Bool, true, false}
use native.Mathlib.Omega.{arith}
use Rattle.std.specs.Prelude.{Result, Ok, Err, Some, None}
use Rattle.lists.specs.Lists.{pick}
use Rattle.checks.specs.Numbers.{Told, invalid, leaving}
use Rattle.checks.specs.Checks.{Check, must, pay, run, verdict, cost, giving_left}
use Rattle.checks.specs.declared.Refusal.{Refusal}
use Rattle.checks.specs.declared.Refused.{Refused}
use Rattle.checks.proofs.Exact.{fine, holds_then, then, stops, run_fine, run_refused, verdict_then, verdict_stops}
use Rattle.checks.proofs.Rules.{tests_refused, tests_passed}
use Rattle.seen.specs.Seen.{Seen, there, There, four}
use Rattle.seen.proofs.Words.{there_part, holds_there}
use Rattle.tags.specs.Tags.{tags_fine, slots_in}
use Rattle.tags.specs.Inner.{tags_of}
use Rattle.directory.specs.Directory.{entries_at, count_checks, body_checks, directory_fee_checks, tag_checks, directory_checks, directory_at, given, Gives}
use Rattle.directory.specs.Inner.{number_checks, counted}
use Rattle.directory.specs.declared.Directory.{Directory}

-- the number of entries
module _ (v : Seen) (big : Bool) (maxTags at : ℕ) where
  stopped : (e : Refusal) → verdict (count_checks v big maxTags at) ≡ Err e → Err e ≡ counted v big maxTags at
  stopped e z = rw (verdict_stops (count_checks v big maxTags at) (body_checks v big at) e z)

  pub count_cut : {e : Refusal} → Err e ≡ verdict (there v at 2) → Err e ≡ counted v big maxTags at
  unfolding count_checks
  count_cut {e} q = stopped e (verdict_stops (there v at 2) _ e (sym q))

  module _ {y : Unit {0}} {n : ℕ} (q : Ok y ≡ verdict (there v at 2)) (en : n ≡ entries_at v big at) where
    to_number : verdict (count_checks v big maxTags at) ≡ verdict (number_checks n maxTags)
    unfolding count_checks
    to_number = verdict_then (there v at 2) _ (sym q) ∙ rw en refl

    pub number_refused : {e : Refusal} → Err e ≡ verdict (number_checks n maxTags) → Err e ≡ counted v big maxTags at
    number_refused {e} b = stopped e (to_number ∙ sym b)

    module _ {z : Unit {0}} (fine : Ok z ≡ verdict (number_checks n maxTags)) where
      to_body : verdict (count_checks v big maxTags at ++ body_checks v big at) ≡ verdict (there v (at + 2) (12 * n + 4))
      to_body = verdict_then (count_checks v big maxTags at) (body_checks v big at) (to_number ∙ sym fine) ∙ rw en refl

      pub body_cut : {e : Refusal} → Err e ≡ verdict (there v (at + 2) (12 * n + 4)) → Err e ≡ counted v big maxTags at
      body_cut {e} b = rw (to_body, ← b)

      pub counted_there : {t : Unit {0}} → Ok t ≡ verdict (there v (at + 2) (12 * n + 4)) → Ok n ≡ counted v big maxTags at
      counted_there b = rw (to_body, ← b) (ap Ok en)

free : (v : Seen) (big : Bool) (maxTags at : ℕ) → cost (count_checks v big maxTags at ++ body_checks v big at) ≡ 0
unfolding cost count_checks
free v big maxTags at = refl

-- one directory, check by check
module _ (v : Seen) (big : Bool) (maxTags at left : ℕ) where
  abbrev counting_checks : List Check
  counting_checks = count_checks v big maxTags at ++ body_checks v big at

  abbrev answer : Result Directory Refused
  answer = given v big (directory_checks v big maxTags at) at left

  -- the checks in the order of the code: those that charge nothing, the charge, the tags
  in_order : directory_checks v big maxTags at ≡ counting_checks ++ (directory_fee_checks v big at ++ tag_checks v big at)
  unfolding directory_checks
  in_order = sym (append_assoc (count_checks v big maxTags at) (body_checks v big at) _)

  by_checks : {t : Told} → run (directory_checks v big maxTags at) left ≡ t → answer ≡ giving_left t (directory_at v big at)
  by_checks q = ap (λ t. giving_left t (directory_at v big at)) q

  pub directory_uncounted : {e : Refusal} {r : Refused} → Err e ≡ counted v big maxTags at → r ≡ leaving e left → Err r ≡ answer
  directory_uncounted {e} {r} q z =
      let s = run_refused counting_checks left e (free v big maxTags at) (tests_refused _ _ e q) in
      rw (by_checks (ap (λ cs. run cs left) in_order ∙ stops counting_checks _ left (leaving e left) s), z)

  module _ {n : ℕ} (qc : Ok n ≡ counted v big maxTags at) where
    count_is : n ≡ entries_at v big at
    count_is = (tests_passed _ _ n qc).1

    body_there : There v (at + 2) (12 * n + 4)
    body_there =
        rw count_is (holds_there v (at + 2) (12 * entries_at v big at + 4)
        (holds_then (count_checks v big maxTags at) (body_checks v big at) ((fine counting_checks).0 (tests_passed _ _ n qc).0)).1)

    pub entries_fit : at + 2 + 12 * n + 4 ≤ v.size
    entries_fit = omega (arith, body_there.in_file)

    pub tags_there : There v (at + 2) (12 * n)
    tags_there = there_part v (at + 2) (12 * n + 4) (at + 2) (12 * n) body_there (omega arith) (omega arith)

    pub next_there : There v (at + 2 + 12 * n) 4
    next_there = there_part v (at + 2) (12 * n + 4) (at + 2 + 12 * n) 4 body_there (omega arith) (omega arith)

    counted_on : run (directory_checks v big maxTags at) left ≡ run (directory_fee_checks v big at ++ tag_checks v big at) left
    counted_on =
        ap (λ cs. run cs left) in_order
        ∙ then counting_checks _ left left (run_fine _ left (free v big maxTags at) (tests_passed _ _ n qc).0)

    pub directory_unpaid : {r : Refused} → Err r ≡ run (pay (n + 1) ∷ []) left → Err r ≡ answer
    directory_unpaid {r} q = sym (by_checks (counted_on ∙ stops (directory_fee_checks v big at) _ left r (rw (← count_is) (sym q))))

    module _ {u : ℕ} (qf : Ok u ≡ run (pay (n + 1) ∷ []) left) where
      -- the tags decide what is left
      abbrev by_tags : Bool → Result Directory Refused
      by_tags fine = pick fine (Ok (directory_at v big at u)) (Err (leaving invalid u))

      tags_on : answer ≡ by_tags (tags_fine v big (at + 2) n)
      unfolding run
      tags_on =
          by_checks (counted_on ∙ then (directory_fee_checks v big at) (tag_checks v big at) left u (rw (← count_is) (sym qf)))
          ∙ by (tags_fine v big (at + 2) (entries_at v big at))
          ∙ ap (λ k. by_tags (tags_fine v big (at + 2) k)) (sym count_is)
        where
          by : (b : Bool) → giving_left (run (must b invalid ∷ []) u) (directory_at v big at) ≡ by_tags b
          by true = refl
          by false = refl

      pub directory_untagged : None ≡ tags_of v big (at + 2) n → Err (leaving invalid u) ≡ answer
      directory_untagged q = by (tags_fine v big (at + 2) n) q tags_on
        where
          by : (b : Bool) → None ≡ pick b (Some (slots_in v big (at + 2) n)) None → answer ≡ by_tags b → Err (leaving invalid u) ≡ answer
          by true z e = absurd cc
          by false z e = sym e

      pub directory_read : {slots : List ℕ} {next : ℕ} → Some slots ≡ tags_of v big (at + 2) n → next ≡ four big v (at + 2 + 12 * n)
          → Ok (record { entries = n; slots = slots; next = next; left = u }) ≡ answer
      directory_read {slots} {next} q z = by (tags_fine v big (at + 2) n) q tags_on
        where
          by : (b : Bool) → Some slots ≡ pick b (Some (slots_in v big (at + 2) n)) None → answer ≡ by_tags b
              → Ok (record { entries = n; slots = slots; next = next; left = u }) ≡ answer
          by true p e = let s : slots ≡ slots_in v big (at + 2) n = cc in rw (e, s, z) (rw count_is refl)
          by false p e = absurd cc

pub ruleset directories = (directory_unpaid, directory_untagged, directory_read)

-- what an answer says: refused, its checks are; a directory is the one at the place, with the units that they leave
module _ (v : Seen) (big : Bool) (cs : List Check) (at left : ℕ) where
  pub given_refused : {r : Refused} → Err r ≡ given v big cs at left → run cs left ≡ Err r
  given_refused {r} q = by (run cs left) q
    where
      by : (t : Told) → Err r ≡ giving_left t (directory_at v big at) → t ≡ Err r
      by (Ok u) z = absurd cc
      by (Err s) z = ap Err cc

  pub given_found : {d : Directory} → Ok d ≡ given v big cs at left → (run cs left ≡ Ok d.left) × (d ≡ directory_at v big at d.left)
  given_found {d} q = by (run cs left) q
    where
      by : (t : Told) → Ok d ≡ giving_left t (directory_at v big at) → (t ≡ Ok d.left) × (d ≡ directory_at v big at d.left)
      by (Ok u) z =
          let e : d ≡ directory_at v big at u = cc in
          let l : u ≡ d.left = ap (λ (x : Directory). x.left) (sym e) in
          (ap Ok l, e ∙ ap (directory_at v big at) l)
      by (Err s) z = absurd cc

-- what is given is one answer
pub gives_one : (v : Seen) (big : Bool) (cs : List Check) (at left : ℕ) (a b : Result Directory Refused) → Gives v big cs at left a → Gives v big cs at left b
    → a ≡ b
gives_one v big cs at left a b x y = x ∙ sym y
