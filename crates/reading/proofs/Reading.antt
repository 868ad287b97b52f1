-- A segment that is read: shown where its quality is good, blank where it is not.
use Prim.Native.Nat.{ℕ, ◌<◌, ◌≤◌}
use mathlib.Core.Path.{◌≡◌, refl, ap, ◌∙◌}
use mathlib.Core.Bool.{Bool, true, false}
use mathlib.Core.Logic.{◌⊎◌, inl, inr}
use mathlib.Core.List.{List, []}
use native.Mathlib.Omega.{arith}
use borrow.Author.Rules.{rules}
use lib.Dec.{eqb}
use lib.ListN.{length}
use Rattle.lists.specs.Lists.{pick, overlay}
use Rattle.std.specs.Prelude.{Ok, Err}
use Rattle.checks.specs.Numbers.{Verdict, no_refusal, number_of, truncated}
use Rattle.checks.specs.Checks.{verdict, Holds}
use Rattle.checks.proofs.Exact.{fine}
use Rattle.seen.specs.Seen.{Seen, seen}
use Rattle.packets.specs.Packets.{part}
use Rattle.picture.specs.declared.Format.{Format}
use Rattle.picture.specs.Picture.{needed_of, painted}
use Rattle.picture.specs.Inner.{Readable}
use Rattle.plan.specs.Plan.{place_checks, stored_of}
use Rattle.plan.specs.declared.Stored.{Stored}
use Rattle.plan.proofs.Planning.{Located}
use Rattle.logluv_segment.specs.Segment.{stored, stored_checks}
use Rattle.showing.specs.Shown.{planes_in, shown_by, shown}
use Rattle.showing.specs.Inner.{SegmentShowable}
use Rattle.showing.proofs.Showing.{planes_length, showable, stored_part, shown_part}
use Rattle.quality.specs.Quality.{judged, code_is, where_good, quality_is, code_of, shows_of}
use Rattle.reading.specs.Inner.{planes_read}
use Rattle.quality.specs.declared.Quality.{Quality}
use Rattle.quality.specs.declared.Quality.TheVariants.{Good, Missing, Outside, Rejected}

-- a quality that is good says that both answers are fine, and where the stored bytes are
record BothFine (stored s : Stored) (place packets : Verdict) : Type 0 where
  place_fine : place ≡ no_refusal
  packets_fine : packets ≡ no_refusal
  stored_is : stored ≡ s

both_fine : (stored s : Stored) (place packets : Verdict) → Good stored ≡ judged place packets s → BothFine stored s place packets
both_fine stored s (Ok x) (Ok y) q = record { place_fine = refl; packets_fine = refl; stored_is = cc }
both_fine stored s (Ok x) (Err e) q = absurd cc
both_fine stored s (Err e) packets q = absurd (by (eqb (number_of e) (number_of truncated)) q)
  where
    by : (t : Bool) → Good stored ≡ pick t Outside Missing → ⊥
    by true q = cc
    by false q = cc

-- each quality but good
abbrev NotGood : Quality → Type 0
NotGood q = (q ≡ Missing) ⊎ ((q ≡ Outside) ⊎ (q ≡ Rejected))

gives_nothing : (q : Quality) → NotGood q → (bytes : List ℕ) → [] ≡ where_good q bytes
gives_nothing q (inl e) bytes = rw e refl
gives_nothing q (inr (inl e)) bytes = rw e refl
gives_nothing q (inr (inr e)) bytes = rw e refl

nothing_over : (old : List ℕ) → old ≡ overlay [] old
unfolding overlay
nothing_over old = refl

-- where the stored bytes of a good segment are, and that their packets are accepted
module _ (v : Seen) (f : Format) (k : ℕ) {s : Stored} (q : Good s ≡ quality_is v f k) where
  both : BothFine s (stored_of v f k) (verdict (place_checks v f k)) (verdict (stored_checks v f k))
  unfolding quality_is
  both = both_fine s (stored_of v f k) (verdict (place_checks v f k)) (verdict (stored_checks v f k)) q

  good_located : Located v f k s.offset s.count
  good_located = record {
    passed = both.place_fine;
    offset_is = ap (λ (t : Stored). t.offset) both.stored_is;
    count_is = ap (λ (t : Stored). t.count) both.stored_is;
  }

  good_packets : Holds (stored_checks v f k)
  good_packets = (fine (stored_checks v f k)).0 both.packets_fine

module _ (v : Seen) (f : Format) (k : ℕ) {r : Quality} (er : r ≡ quality_is v f k) where
  pub number_is : {n : ℕ} → n ≡ code_is r → n ≡ code_of v f k
  number_is e = e ∙ ap code_is er

  -- what a segment that is not good leaves
  module _ (none : NotGood r) where
    nothing : (bytes : List ℕ) → [] ≡ where_good (quality_is v f k) bytes
    nothing bytes = rw (← er) (gives_nothing r none bytes)

    pub blank_planes : (old : List ℕ) → old ≡ overlay (planes_read v f k) old
    blank_planes old = rw (← nothing (planes_in (stored v f k))) (nothing_over old)

    pub blank_picture : (old new : List ℕ) → new ≡ painted f k [] old → new ≡ painted f k (shows_of v f k) old
    blank_picture old new w = rw (← nothing (shown v f k)) w

-- what a good one asks for and leaves
module _ (file map : List ℕ) (f : Format) (k : ℕ) {s : Stored} (q : Good s ≡ quality_is (seen file map) f k) where
  here : Located (seen file map) f k s.offset s.count
  here = good_located (seen file map) f k q

  pub good_showable : Readable (seen file map) f → k < f.segments → SegmentShowable file f k s.offset s.count
  good_showable ok h = showable file map f k s.offset s.count here ok h (good_packets (seen file map) f k q)

  pub good_planes : (old new : List ℕ) → new ≡ overlay (planes_in (part file s.offset s.count)) old → new ≡ overlay (planes_read (seen file map) f k) old
  good_planes old new e = rw (← q) (stored_part file map f k s.offset s.count here old new e)

  pub good_picture : (old new : List ℕ) → new ≡ painted f k (shown_by f k (part file s.offset s.count)) old
      → new ≡ painted f k (shows_of (seen file map) f k) old
  good_picture old new e = rw (← q) (shown_part file map f k s.offset s.count here old new e)

pub ruleset reads = (number_is, blank_planes, blank_picture, rules)

-- what is written into scratch is no more than the planes: nothing where the segment is not good
pub planes_short : (v : Seen) (f : Format) (k : ℕ) → length (planes_read v f k) ≤ needed_of f k
planes_short v f k = by (quality_is v f k) refl
  where
    by : (q : Quality) → q ≡ quality_is v f k → length (where_good q (planes_in (stored v f k))) ≤ needed_of f k
    by (Good stored) e = omega (arith, planes_length v f k (good_packets v f k e))
    by Missing e = omega arith
    by Outside e = omega arith
    by Rejected e = omega arith
