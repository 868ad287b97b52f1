-- Showing an accepted picture: the walk over its segments.
use Prim.Native.Nat.{ℕ, ◌+◌, ◌<◌, ◌≤◌}
use mathlib.Core.Path.{◌≡◌, refl, sym, ap, ◌∙◌}
use mathlib.Core.List.{List}
use native.Mathlib.Omega.{arith}
use lib.ListN.{length}
use borrow.Author.Rules.{rules}
use Rattle.lists.specs.Lists.{overlay}
use Rattle.lists.proofs.Overlay.{overlay_length}
use Rattle.checks.proofs.Exact.{fine, refused_passed}
use Rattle.seen.specs.Seen.{seen}
use Rattle.packets.specs.Packets.{part}
use Rattle.picture.specs.declared.Format.{Format}
use Rattle.picture.specs.Picture.{needed_of, scratch_of, picture_of, painted}
use Rattle.picture.proofs.Sizes.{needed_in_scratch}
use Rattle.plan.specs.Plan.{place_checks, place_is}
use Rattle.plan.specs.declared.Stored.{Stored}
use Rattle.checks.specs.declared.Refusal.{Refusal}
use Rattle.plan.proofs.Planning.{Located, located, not_located}
use Rattle.picture.proofs.Painting.{Painting, painting_none, painting_more, painting_all}
use Rattle.logluv_segment.specs.Segment.{stored}
use Rattle.showing.specs.Shown.{shown, planes_in, shown_by}
use Rattle.showing.specs.Inner.{SegmentShowable}
use Rattle.showing.proofs.Showing.{planes_length, stored_part, shown_part, showable}
use Rattle.decoding.specs.Inner.{PictureAccepted}
use Rattle.std.specs.Prelude.{Ok, Err}

-- one segment of an accepted picture
module _ (file map : List ℕ) (f : Format) (k : ℕ) (ok : PictureAccepted (seen file map) f) (h : k < f.segments) where
  pub never_refused : {e : Refusal} → Err e ≡ place_is (seen file map) f k → ⊥
  never_refused {e} q =
      refused_passed e tt
      (sym (not_located (seen file map) f k q) ∙ (fine (place_checks (seen file map) f k)).1 (ok.segment k h).place)

  pub accepted_showable : {s : Stored} → Ok s ≡ place_is (seen file map) f k → SegmentShowable file f k s.offset s.count
  accepted_showable {s} q = showable file map f k s.offset s.count (located (seen file map) f k q) ok.readable h (ok.segment k h).packets

-- k segments are shown, and scratch is as long as it was
pub record Showing (file map : List ℕ) (f : Format) (scratch₀ output₀ scratch output : List ℕ) (k : ℕ) : Type 0 where
  pub room : length scratch ≡ length scratch₀
  pub picture : Painting f (shown (seen file map) f) output₀ output k

pub showing_none : (file map : List ℕ) (f : Format) (scratch output : List ℕ) → Showing file map f scratch output scratch output 0
showing_none file map f scratch output = record { room = refl; picture = painting_none f (shown (seen file map) f) output }

module _
    (file map : List ℕ)
    (f : Format)
    (scratch₀ output₀ scratch output : List ℕ)
    (k : ℕ)
    (s : Showing file map f scratch₀ output₀ scratch output k) where
  pub planes_fit : scratch_of f ≤ length scratch₀ → needed_of f k ≤ length scratch
  planes_fit h = omega (arith, needed_in_scratch f k, s.room)

  pub picture_fits : f.output ≤ length output₀ → f.output ≤ length output
  picture_fits h = omega (arith, s.picture.long)

  module _ (ok : PictureAccepted (seen file map) f) where
    -- the part of the file that was read has the stored bytes
    module _ (h : k < f.segments) {s' : Stored} (q : Ok s' ≡ place_is (seen file map) f k) where
      here : Located (seen file map) f k s'.offset s'.count
      here = located (seen file map) f k q

      pub showing_more : scratch_of f ≤ length scratch₀ → (scratch' output' : List ℕ)
          → scratch' ≡ overlay (planes_in (part file s'.offset s'.count)) scratch
          → output' ≡ painted f k (shown_by f k (part file s'.offset s'.count)) output
          → Showing file map f scratch₀ output₀ scratch' output' (k + 1)
      showing_more room scratch' output' es eo =
          let planes = planes_in (stored (seen file map) f k) in
          let n = planes_length (seen file map) f k (ok.segment k h).packets in
          let l : length planes ≤ length scratch = omega (arith, n, planes_fit room) in
          let written = stored_part file map f k s'.offset s'.count here scratch scratch' es in
          let painted = shown_part file map f k s'.offset s'.count here output output' eo in
          record {
            room = ap length written ∙ overlay_length planes scratch l ∙ s.room;
            picture = painting_more f (shown (seen file map) f) output₀ output k s.picture output' painted;
          }

    pub showing_all : f.segments ≤ k → f.output ≤ length output₀ → output ≡ overlay (picture_of f (shown (seen file map) f)) output₀
    showing_all h room = painting_all f (shown (seen file map) f) output₀ output k s.picture ok.readable.valid h room

pub ruleset showing = (never_refused, accepted_showable, showing_none, planes_fit, picture_fits, showing_more, showing_all, rules)
