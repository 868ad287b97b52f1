-- Bytes that did not come have no influence, and neither has what the lent buffers held: what is seen decides the whole outcome.
use Prim.Native.Nat.{ℕ, ◌*◌}
use mathlib.Core.Path.{◌≡◌, sym, ap, ◌∙◌}
use mathlib.Core.List.{List}
use lib.ListN.{length, take}
use lib.Seq.{take_at}
use Rattle.lists.specs.Lists.{overlay}
use Rattle.head.specs.Heads.{bytes_of}
use Rattle.head.proofs.Heads.{bytes_are}
use Rattle.seen.specs.Seen.{Seen}
use Rattle.seen.proofs.Alike.{alike}
use Rattle.front.specs.Front.{format_seen}
use Rattle.picture.specs.Picture.{picture_of}
use Rattle.picture.proofs.Pictures.{picture_length}
use Rattle.header.specs.declared.Limits.{Limits}
use Rattle.quality.specs.Quality.{shows_of}
use Rattle.patchy.specs.Patchy.{reading_with, reading_of, quality_after}
use Rattle.admission.specs.declared.Room.{Room}
use Rattle.patchy.specs.declared.Sizes.{Sizes}
use Rattle.patchy.specs.declared.Reading.{Reading}
use Rattle.promises.specs.Patchy.{Call, view, page_format, room, answer, output_then, Alike, SameOutcome}
use Rattle.promises.proofs.Strict.{page_valid}
use Rattle.promises.proofs.Patchy.{reading_exact}
use Rattle.checks.specs.declared.Refused.{Refused}
use Rattle.std.specs.Prelude.{Result, Ok}

-- the picture that is seen in a page
abbrev picture_seen : Seen → ℕ → List ℕ
picture_seen v page = picture_of (format_seen v page) (shows_of v (format_seen v page))

-- where there is a picture it is the front of the output
picture_front : (c : Call) (s : Sizes) (w : ℕ) → answer c ≡ Ok (reading_with s w)
    → take (2 * s.channels * (s.width * s.height)) (output_then c) ≡ picture_seen (view c) c.page
unfolding overlay
picture_front c s w e =
    let r = (reading_exact c s w).0 e in
    let f = page_format c in
    let long = picture_length f (shows_of (view c) f) ∙ (page_valid (view c) c.page c.limits r.fine.page_fine).output_is in
    rw (e, r.sizes_are, ← bytes_are f.mono) (take_at (picture_seen (view c) c.page) _ (bytes_of f.mono * (f.width * f.height)) long)

-- the answer and the quality bytes are made of what is seen, what is asked for and the lengths of the buffers
module _ (v w : Seen) (p q : ℕ) (same_view : v ≡ w) (same_page : p ≡ q) where
  same_answer : (m n : ℕ) (k l : Limits) (r s : Room) (t u : ℕ) → m ≡ n → k ≡ l → r ≡ s → t ≡ u → reading_of v m p k r t ≡ reading_of w n q l s u
  same_answer m n k l r s t u a b c d = rw (same_view, same_page, a, b, c, d)

  same_marks : (r s : Result Reading Refused) (x y : List ℕ) → r ≡ s → length x ≡ length y → quality_after v p r x ≡ quality_after w q s y
  same_marks r s x y a b = rw (same_view, same_page, a, b)

-- two calls that differ in nothing but bytes that did not come and what the buffers held have the same outcome
pub lost_bytes_have_no_influence : (a b : Call) → Alike a b → SameOutcome a b
lost_bytes_have_no_influence a b h =
    let same_view : view a ≡ view b = rw h.one_map (alike a.file b.file b.map h.files_agree) in
    let same-room : room a ≡ room b = rw (h.output_long, h.scratch_long, h.quality_long) in
    let same = same_answer (view a) (view b) a.page b.page same_view h.one_page (length a.map) (length b.map) a.limits b.limits (room a)
    (room b) a.units b.units (ap length h.one_map) h.one_limits same-room h.one_budget in
    record {
      answers = same;
      pixels = λ s w e. picture_front a s w (same ∙ e) ∙ rw (same_view, h.one_page) (sym (picture_front b s w e));
      marks = same_marks (view a) (view b) a.page b.page same_view h.one_page (answer a) (answer b) a.quality b.quality same h.quality_long;
    }
