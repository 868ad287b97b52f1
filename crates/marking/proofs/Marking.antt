-- The walk over a picture's segments: each is shown in its place and marked, and scratch is as long as it was.
use Prim.Native.Nat.{ℕ, ◌+◌, ◌<◌, ◌≤◌}
use mathlib.Core.Path.{◌≡◌, refl, ap, ◌∙◌}
use mathlib.Core.List.{List}
use native.Mathlib.Omega.{arith}
use lib.ListN.{length, set}
use borrow.Author.Rules.{rules}
use Rattle.lists.specs.Lists.{overlay}
use Rattle.lists.proofs.Overlay.{overlay_length}
use Rattle.lists.proofs.Wrote.{Filling, filling_none, filling_more, filling_all}
use Rattle.seen.specs.Seen.{Seen}
use Rattle.packets.specs.Packets.{expand}
use Rattle.picture.specs.declared.Format.{Format}
use Rattle.picture.specs.Inner.{Readable}
use Rattle.picture.specs.Picture.{needed_of, scratch_of, painted}
use Rattle.logluv_segment.specs.Segment.{stored}
use Rattle.picture.proofs.Sizes.{needed_in_scratch}
use Rattle.picture.proofs.Painting.{Painting, painting_none, painting_more, painting_all}
use Rattle.quality.specs.Quality.{quality_is, code_of, shows_of, where_good}
use Rattle.marking.specs.Marks.{codes_of, shown_over}
use Rattle.reading.proofs.Reading.{planes_short}

-- k segments are read
pub record Marking (v : Seen) (f : Format) (output₀ scratch₀ quality₀ output scratch quality : List ℕ) (k : ℕ) : Type 0 where
  pub picture : Painting f (shows_of v f) output₀ output k
  pub room : length scratch ≡ length scratch₀
  pub marks : Filling (code_of v f) f.segments quality₀ quality k

pub marking_none : (v : Seen) (f : Format) (output scratch quality : List ℕ) → f.segments ≤ length quality
    → Marking v f output scratch quality output scratch quality 0
marking_none v f output scratch quality h = record {
  picture = painting_none f (shows_of v f) output;
  room = refl;
  marks = filling_none (code_of v f) f.segments quality h;
}

module _ (v : Seen) (f : Format) (output₀ scratch₀ quality₀ output scratch quality : List ℕ) (k : ℕ)
    (s : Marking v f output₀ scratch₀ quality₀ output scratch quality k) where
  pub planes_fit : scratch_of f ≤ length scratch₀ → needed_of f k ≤ length scratch
  planes_fit h = omega (arith, needed_in_scratch f k, s.room)

  pub picture_fits : f.output ≤ length output₀ → f.output ≤ length output
  picture_fits h = omega (arith, s.picture.long)

  pub mark_in : k < f.segments → k < length quality
  mark_in h = omega (arith, s.marks.room, s.marks.long)

  pub marking_more : k < f.segments → scratch_of f ≤ length scratch₀ → (code : ℕ) (output' scratch' : List ℕ) → code ≡ code_of v f k
      → scratch' ≡ overlay (where_good (quality_is v f k) (expand (stored v f k) 0)) scratch
      → output' ≡ painted f k (shows_of v f k) output
      → Marking v f output₀ scratch₀ quality₀ output' scratch' (set quality k code) (k + 1)
  marking_more h room code output' scratch' ec es eo =
      let l : length (where_good (quality_is v f k) (expand (stored v f k) 0)) ≤ length scratch = omega (arith, planes_short v f k, planes_fit room) in
      record {
        picture = painting_more f (shows_of v f) output₀ output k s.picture output' eo;
        room = ap length es ∙ overlay_length (where_good (quality_is v f k) (expand (stored v f k) 0)) scratch l ∙ s.room;
        marks = filling_more (code_of v f) f.segments quality₀ quality k s.marks code h ec;
      }

  module _ (h : f.segments ≤ k) where
    pub picture_made : Readable v f → f.output ≤ length output₀ → output ≡ shown_over v f output₀
    picture_made ok room = painting_all f (shows_of v f) output₀ output k s.picture ok.valid h room

    pub all_marked : quality ≡ overlay (codes_of v f) quality₀
    all_marked = filling_all (code_of v f) f.segments quality₀ quality k s.marks h

pub ruleset marking = (marking_none, planes_fit, picture_fits, mark_in, marking_more, picture_made, all_marked, rules)
