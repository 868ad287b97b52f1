-- What a reading that is admitted may rely on, its answer, and what it leaves in the three buffers.
use Prim.Native.Nat.{ℕ, ◌+◌, ◌-◌, ◌≤◌}
use mathlib.Core.Path.{◌≡◌, sym, ap, ◌∙◌}
use mathlib.Core.List.{List, ◌++◌, append-nil}
use native.Mathlib.Omega.{arith}
use lib.ListN.{length, take, drop, replicate, length-drop, length-replicate, replicate-append-replicate, drop_of_length-le}
use lib.Seq.{length-take-le, take_at, drop_at}
use borrow.Author.Rules.{rules}
use borrow.Author.Tests.{leb-true}
use Rattle.lists.specs.Lists.{overlay}
use Rattle.lists.proofs.Overlay.{length_span}
use Rattle.head.specs.Heads.{channels_of}
use Rattle.checks.specs.Checks.{Holds}
use Rattle.seen.specs.Seen.{Seen}
use Rattle.header.specs.declared.Limits.{Limits}
use Rattle.front.specs.Front.{found, format_seen}
use Rattle.front.specs.declared.Found.{Found}
use Rattle.picture.specs.declared.Format.{Format}
use Rattle.picture.specs.Picture.{scratch_of}
use Rattle.clearing.proofs.Clearing.{zeroed}
use Rattle.quality.specs.Quality.{code_of}
use Rattle.admission.specs.Admission.{room_in, buffer_checks, admitted}
use Rattle.patchy.specs.Patchy.{sizes_of, reading_with, reading_from, reading_of, codes_over}
use Rattle.marking.specs.Marks.{shown_over, codes_of}
use Rattle.marking.specs.Inner.{Held}
use Rattle.admission.specs.declared.Room.{Room}
use Rattle.admission.proofs.Admitted.{admitted_format_lem, admitted_readable, admitted_room}
use Rattle.patchy.specs.declared.Sizes.{Sizes}
use Rattle.patchy.specs.declared.Reading.{Reading}
use Rattle.checks.specs.declared.Refused.{Refused}
use Rattle.checks.specs.Numbers.{Told}
use Rattle.std.specs.Prelude.{Ok, Err}

-- the sizes, of channels that a call told
pub sizes_told : (f : Format) (channels : ℕ) → channels ≡ channels_of f.mono
    → record {
      width = f.width;
      height = f.height;
      block_width = f.block_width;
      block_height = f.block_height;
      segments = f.segments;
      channels = channels;
    } ≡ sizes_of f
sizes_told f channels e = rw e

-- the part of scratch that a format needs, lent twice and zeroed the second time
pub scratch_zeroed : (f : Format) (needed : ℕ) (old used cleared : List ℕ) → needed ≡ scratch_of f → scratch_of f ≤ length old
    → length used ≡ length (take needed old)
    → cleared ≡ replicate (length (take needed (used ++ drop needed old))) 0
    → cleared ++ drop needed (used ++ drop needed old) ≡ overlay (replicate (scratch_of f) 0) old
scratch_zeroed f needed old used cleared e room l z = rw (← e) (zeroed needed old used cleared (rw e room) l z)

-- the segments are lent the needed part of scratch
pub held_part : (v : Seen) (f : Format) (output scratch quality : List ℕ) (needed : ℕ) → needed ≡ scratch_of f → Held v f (room_in output scratch quality)
    → Held v f (room_in output (take needed scratch) quality)
held_part v f output scratch quality needed e h = record {
  readable = h.readable;
  output_holds = h.output_holds;
  scratch_holds = omega (arith, length-take-le needed scratch (omega (arith, h.scratch_holds)));
  quality_holds = h.quality_holds;
}

-- the quality bytes after the last segment, cleared after the segments are read
zeros_after : (n m : ℕ) → drop {A = ℕ} n (replicate (n + m) 0) ≡ replicate m 0
zeros_after n m = rw (← replicate-append-replicate {A = ℕ} n m 0) (drop_at {A = ℕ} (replicate n 0) (replicate m 0) n (length-replicate n 0))

pub tail_cleared : (v : Seen) (f : Format) (old marked cleared : List ℕ) → f.segments ≤ length old → marked ≡ overlay (codes_of v f) old
    → cleared ≡ replicate (length (take (length old - f.segments) (drop f.segments marked))) 0
    → take f.segments marked ++ (cleared ++ drop (length old - f.segments) (drop f.segments marked)) ≡ codes_over v f old
unfolding overlay
tail_cleared v f old marked cleared room e z =
    let n = f.segments in
    let m = length old - n in
    let codes = codes_of v f in
    let long : length codes ≡ n = length_span (code_of v f) 0 n in
    let all : length old ≡ n + m = omega arith in
    let rest : length (drop n old) ≡ m = length-drop n old in
    let none_after = drop_of_length-le (drop n old) {i = m} (omega (arith, rest)) in
    let taken = length-take-le m (drop n old) (omega (arith, rest)) in
    rw (z, e, long, take_at codes (drop n old) n long, drop_at codes (drop n old) n long, taken, none_after, append-nil {A = ℕ} (replicate m 0))
    (ap (λ (x : List ℕ). codes ++ x) (sym (zeros_after n m) ∙ ap (λ (k : ℕ). drop {A = ℕ} n (replicate k 0)) (sym all)))

pub ruleset showings = (scratch_zeroed, held_part, tail_cleared, rules)

-- what a reading's answer tells of its checks
pub picture_told : (t : Told) (f : Format) {r : Reading} → reading_from (found t f) ≡ Ok r → (t ≡ Ok r.left) × (r.sizes ≡ sizes_of f)
picture_told (Ok x) f {r} q =
    let e : reading_with (sizes_of f) x ≡ r = cc in
    (ap (λ (y : Reading). Ok y.left) e, ap (λ (y : Reading). y.sizes) (sym e))
picture_told (Err s) f q = absurd cc

pub refusal_told : (t : Told) (f : Format) {r : Refused} → reading_from (found t f) ≡ Err r → t ≡ Err r
refusal_told (Ok x) f q = absurd cc
refusal_told (Err s) f q = ap Err cc

module _ (v : Seen) (map page : ℕ) (l : Limits) (room : Room) (left : ℕ) where
  -- the answer
  pub read_refused : {r : Refused} → Err r ≡ admitted v map page l room left → Err r ≡ reading_of v map page l room left
  read_refused q = ap reading_from q

  module _ {f : Found} (q : Ok f ≡ admitted v map page l room left) where
    pub read_picture : {s : Sizes} → s ≡ sizes_of f.format → Ok (reading_with s f.left) ≡ reading_of v map page l room left
    read_picture e = ap (λ (x : Sizes). Ok (reading_with x f.left)) e ∙ ap reading_from q

    -- what is admitted can be read into the buffers
    pub held : Held v f.format room
    unfolding buffer_checks Holds
    held =
        let room_holds = admitted_room v map page l room left q in
        record {
          readable = admitted_readable v map page l room left q;
          output_holds = leb-true _ _ room_holds.0;
          scratch_holds = leb-true _ _ room_holds.1.0;
          quality_holds = leb-true _ _ room_holds.1.1.0;
        }

    format_is : f.format ≡ format_seen v page
    format_is = admitted_format_lem v map page l room left q

    -- what is left in the buffers
    pub output_shown : (old after : List ℕ) → after ≡ shown_over v f.format old → after ≡ shown_over v (format_seen v page) old
    output_shown old after e = rw format_is at e

    pub scratch_cleared : (old after : List ℕ) → after ≡ overlay (replicate (scratch_of f.format) 0) old
        → after ≡ overlay (replicate (scratch_of (format_seen v page)) 0) old
    scratch_cleared old after e = rw format_is at e

    pub quality_marked : (old after : List ℕ) → after ≡ codes_over v f.format old → after ≡ codes_over v (format_seen v page) old
    quality_marked old after e = rw format_is at e
