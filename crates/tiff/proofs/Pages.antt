-- The walk to a page: each return against the list of checks.
use Prim.Native.Nat.{ℕ, zero, suc, ◌-◌}
use mathlib.Core.Path.{◌≡◌, refl, ap, ◌∙◌}
use mathlib.Core.List.{List, ◌∷◌, ◌++◌}
use mathlib.Core.Bool.{Bool}
use native.Mathlib.Omega.{arith}
use lib.Dec.{ltb}
use Rattle.std.specs.Prelude.{Result, Ok, Err}
use Rattle.checks.specs.Numbers.{Told, page_not_found, leaving}
use Rattle.checks.specs.Checks.{Check, must, run, giving_left}
use Rattle.checks.specs.declared.Refused.{Refused}
use Rattle.checks.proofs.Exact.{then, stops}
use Rattle.checks.proofs.Rules.{pos}
use Rattle.seen.specs.Seen.{Seen}
use Rattle.directory.specs.Directory.{next_at, directory_checks, directory_at, given}
use Rattle.directory.specs.declared.Directory.{Directory}
use Rattle.tiff.specs.Walk.{walk_checks, page_at, PlaceIs, PageIs}

module _ (v : Seen) (big : Bool) (maxTags : ℕ) where
  -- one directory on the way
  abbrev place_checks : ℕ → List Check
  place_checks at = must (ltb 0 at) page_not_found ∷ directory_checks v big maxTags at

  pub nowhere : (at left : ℕ) → at ≡ 0 → PlaceIs v big maxTags at left (Err (leaving page_not_found left))
  unfolding run
  nowhere at left z = rw z

  pub somewhere : (at left : ℕ) {r : Result Directory Refused} → (at ≡ 0 → ⊥) → r ≡ given v big (directory_checks v big maxTags at) at left
      → PlaceIs v big maxTags at left r
  unfolding run
  somewhere at left nz e = rw (pos at nz) e

  -- what is ahead of a directory with so many pages to go
  abbrev ahead : ℕ → Directory → Result Directory Refused
  ahead zero d = Ok d
  ahead (suc p) d = given v big (walk_checks v big maxTags p d.next) (page_at v big p d.next) d.left

  abbrev page_of : ℕ → ℕ → ℕ → Result Directory Refused
  page_of p at left = given v big (walk_checks v big maxTags p at) (page_at v big p at) left

  -- the checks behind a directory
  abbrev rest : ℕ → ℕ → List Check
  rest p at = walk_checks v big maxTags p (next_at v big at)

  -- a walk is its first directory, then what is ahead of that
  abbrev after : ℕ → Result Directory Refused → Result Directory Refused
  after p (Ok d) = ahead p d
  after p (Err r) = Err r

  step : (p at left : ℕ) → page_of p at left ≡ after p (given v big (place_checks at) at left)
  unfolding walk_checks page_at
  step zero at left = by (run (place_checks at) left)
    where
      by : (t : Told) → giving_left t (directory_at v big at) ≡ after 0 (giving_left t (directory_at v big at))
      by (Ok u) = refl
      by (Err r) = refl
  step (suc p) at left = by (run (place_checks at) left) refl
    where
      by : (t : Told) → run (place_checks at) left ≡ t
          → given v big (place_checks at ++ rest p at) (page_at v big p (next_at v big at)) left ≡ after (suc p) (giving_left t (directory_at v big at))
      by (Ok u) e = rw (then (place_checks at) (rest p at) left u e) refl
      by (Err r) e = rw (stops (place_checks at) (rest p at) left r e) refl

-- with so many pages to go the next directory is at a place, with so many units left
pub record Walking (v : Seen) (big : Bool) (maxTags page first left p at rest : ℕ) : Type 0 where
  pub same : page_of v big maxTags page first left ≡ page_of v big maxTags p at rest

module _ (v : Seen) (big : Bool) (maxTags page first left : ℕ) where
  pub none_walked : Walking v big maxTags page first left page first left
  none_walked = record { same = refl }

  module _ (p at rest : ℕ) (w : Walking v big maxTags page first left p at rest) where
    pub next_refused : {r : Refused} → PlaceIs v big maxTags at rest (Err r) → PageIs v big maxTags page first left (Err r)
    next_refused q = rw (w.same, step v big maxTags p at rest, ← q) refl

    pub next_found : {d : Directory} → (p ≡ 0 → ⊥) → PlaceIs v big maxTags at rest (Ok d) → Walking v big maxTags page first left (p - 1) d.next d.left
    next_found some q =
        let z : p ≡ suc (p - 1) = omega arith in
        record { same = w.same ∙ ap (λ (k : ℕ). page_of v big maxTags k at rest) z ∙ rw (step v big maxTags (suc (p - 1)) at rest, ← q) refl }

    pub page_found : {d : Directory} → p ≡ 0 → PlaceIs v big maxTags at rest (Ok d) → PageIs v big maxTags page first left (Ok d)
    page_found z q = rw (w.same ∙ ap (λ (k : ℕ). page_of v big maxTags k at rest) z, step v big maxTags 0 at rest, ← q) refl

pub ruleset places = (nowhere, somewhere)

pub ruleset walks = (none_walked, next_refused, next_found, page_found)
