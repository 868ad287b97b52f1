-- The walk to a page passes its checks exactly if it is fine, and what it charges.
use Prim.Native.Nat.{ℕ, zero, suc, ◌<◌, ◌≤◌}
use mathlib.Core.Path.{◌≡◌, ◌∙◌}
use mathlib.Core.Logic.{◌↔◌}
use mathlib.Core.Bool.{Bool}
use native.Mathlib.Omega.{arith}
use borrow.Author.Tests.{ltb-true, lt-ltb}
use Rattle.checks.specs.Checks.{run, Holds, cost}
use Rattle.checks.proofs.Exact.{accepted, holds_then, holds_both, cost_then}
use Rattle.seen.specs.Seen.{Seen}
use Rattle.directory.specs.Directory.{slots_at, next_at, directory_checks}
use Rattle.tiff.specs.Walk.{walk_checks, page_at}
use Rattle.directory.specs.Accepted.{DirectoryFine}
use Rattle.tiff.specs.Accepted.{WalkFine, walk_fee}
use Rattle.tags.specs.Inner.{SlotsThere}
use Rattle.directory.proofs.Accepted.{directory_fine, directory_cost, slots_there}
use Rattle.std.specs.Prelude.{Ok}

module _ (v : Seen) (big : Bool) where
  each_place : (P : ℕ → Type 0) (page at : ℕ) → P at → ((i : ℕ) → i ≤ page → P (page_at v big i (next_at v big at))) → (i : ℕ) → i ≤ suc page
      → P (page_at v big i at)
  unfolding page_at
  each_place P page at a f zero l = a
  each_place P page at a f (suc i) l = f i (omega arith)

  module _ (maxTags : ℕ) where
    walk_is : (page first : ℕ) → Holds (walk_checks v big maxTags page first) → WalkFine v big maxTags page first
    unfolding Holds walk_checks page_at
    walk_is zero first h = record {
      has_place = λ i l. let z : i ≡ 0 = omega arith in rw z (ltb-true 0 first h.0);
      is_fine = λ i l. let z : i ≡ 0 = omega arith in rw z ((directory_fine v big first maxTags).0 h.1);
    }
    walk_is (suc page) first h =
        let x = holds_then (directory_checks v big maxTags first) (walk_checks v big maxTags page (next_at v big first)) h.1 in
        let w = walk_is page (next_at v big first) x.1 in
        record {
          has_place = each_place (λ at. 0 < at) page first (ltb-true 0 first h.0) w.has_place;
          is_fine = each_place (DirectoryFine v big maxTags) page first ((directory_fine v big first maxTags).0 x.0) w.is_fine;
        }

    walk_passes : (page first : ℕ) → WalkFine v big maxTags page first → Holds (walk_checks v big maxTags page first)
    unfolding Holds walk_checks page_at
    walk_passes zero first w = (lt-ltb 0 first (w.has_place 0 (omega arith)), (directory_fine v big first maxTags).1 (w.is_fine 0 (omega arith)))
    walk_passes (suc page) first w = (
      lt-ltb 0 first (w.has_place 0 (omega arith)),
      holds_both (directory_checks v big maxTags first) (walk_checks v big maxTags page (next_at v big first))
          ((directory_fine v big first maxTags).1 (w.is_fine 0 (omega arith)))
          (walk_passes page (next_at v big first) (record {
            has_place = λ i l. w.has_place (suc i) (omega arith);
            is_fine = λ i l. w.is_fine (suc i) (omega arith);
          })),
    )

    pub walk_fine : (page first : ℕ) → Holds (walk_checks v big maxTags page first) ↔ WalkFine v big maxTags page first
    walk_fine page first = (walk_is page first, walk_passes page first)

    pub walk_cost : (page first : ℕ) → cost (walk_checks v big maxTags page first) ≡ walk_fee v big page first
    unfolding cost walk_checks walk_fee
    walk_cost zero first = directory_cost v big first maxTags
    walk_cost (suc page) first =
        cost_then (directory_checks v big maxTags first) (walk_checks v big maxTags page (next_at v big first))
        ∙ rw (directory_cost v big first maxTags, walk_cost page (next_at v big first))

    -- the entries of a page that was found are there
    pub page_there : (page first left u : ℕ) → run (walk_checks v big maxTags page first) left ≡ Ok u
        → SlotsThere v (slots_at v big (page_at v big page first))
    page_there page first left u e =
        let w = walk_is page first ((accepted (walk_checks v big maxTags page first) left u).0 e).holds in
        slots_there v big maxTags (page_at v big page first) (w.is_fine page (omega arith))
