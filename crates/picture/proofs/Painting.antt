-- All segments painted, one a turn, are the picture.
use Prim.Native.Nat.{ℕ, ◌+◌, ◌<◌, ◌≤◌}
use mathlib.Core.Path.{◌≡◌, refl, sym, ap, ◌∙◌}
use mathlib.Core.Bool.{Bool, true, false, ◌&&◌, and-false}
use mathlib.Core.List.{List}
use native.Mathlib.Omega.{arith}
use lib.Dec.{ltb, eqb}
use lib.ListN.{length, get_or}
use lib.Seq.{ext_get_or}
use borrow.Author.Tests.{ltb-true, ltb-false, eqb-true, eqb-false, lt-ltb, le-ltb}
use Rattle.lists.specs.Lists.{pick, overlay}
use Rattle.lists.proofs.Overlay.{overlay_length, overlay_new, overlay_old}
use Rattle.picture.specs.declared.Format.{Format}
use Rattle.picture.specs.Picture.{segment_at, local_at, picture_of, painted}
use Rattle.picture.specs.Inner.{Valid}
use Rattle.picture.proofs.Pictures.{picture_length, picture_at, output_segment}
use Rattle.picture.proofs.Painted.{painted_length, painted_at}

-- The writer of a picture, a segment a turn: the bytes of the first k segments are the new ones.
pub record Painting (f : Format) (new : ℕ → List ℕ) (old out : List ℕ) (k : ℕ) : Type 0 where
  pub long : length out ≡ length old
  pub bytes : (q : ℕ) → q < length old
      → get_or out q 0 ≡ pick (ltb q f.output && ltb (segment_at f q) k) (get_or (new (segment_at f q)) (local_at f q) 0) (get_or old q 0)

pub painting_none : (f : Format) (new : ℕ → List ℕ) (old : List ℕ) → Painting f new old old 0
painting_none f new old =
    record { long = refl; bytes = λ q h. rw (le-ltb (segment_at f q) 0 (omega arith), and-false (ltb q f.output)) }

-- what is of segment k, or of one before it, is of one before the next
one_more : (t : Bool) (s k : ℕ) (x : ℕ → ℕ) (y : ℕ) → pick (t && eqb s k) (x k) (pick (t && ltb s k) (x s) y) ≡ pick (t && ltb s (k + 1)) (x s) y
one_more false s k x y = refl
one_more true s k x y = by (eqb s k) (ltb s k) refl refl
  where
    by : (d e : Bool) → eqb s k ≡ d → ltb s k ≡ e → pick d (x k) (pick e (x s) y) ≡ pick (ltb s (k + 1)) (x s) y
    by true e p q = rw (lt-ltb s (k + 1) (omega (arith, eqb-true))) (ap x (sym (eqb-true s k p)))
    by false true p q = rw (lt-ltb s (k + 1) (omega (arith, ltb-true)))
    by false false p q = rw (le-ltb s (k + 1) (omega (arith, ltb-false, eqb-false s k p)))

module _ (f : Format) (new : ℕ → List ℕ) (old out : List ℕ) (k : ℕ) (s : Painting f new old out k) where
  pub painting_more : (out' : List ℕ) → out' ≡ painted f k (new k) out → Painting f new old out' (k + 1)
  painting_more out' e =
      record {
        long = rw e (painted_length f k (new k) out) ∙ s.long;
        bytes = λ q h.
            rw (e, painted_at f k (new k) out q (rw s.long h), s.bytes q h)
            (one_more (ltb q f.output) (segment_at f q) k (λ m. get_or (new m) (local_at f q) 0) (get_or old q 0));
      }

  pub painting_all : Valid f → f.segments ≤ k → f.output ≤ length old → out ≡ overlay (picture_of f new) old
  painting_all valid h room =
      ext_get_or 0 out _ (s.long ∙ sym (overlay_length (picture_of f new) old (omega (arith, picture_length f new))))
      (λ q i. s.bytes q (rw s.long at i) ∙ by q (ltb q f.output) refl)
    where
      by : (q : ℕ) (t : Bool) → ltb q f.output ≡ t
          → pick (t && ltb (segment_at f q) k) (get_or (new (segment_at f q)) (local_at f q) 0) (get_or old q 0) ≡ get_or (overlay (picture_of f new) old) q 0
      by q true e =
          let i : q < f.output = ltb-true q f.output e in
          rw (lt-ltb (segment_at f q) k (omega (arith, output_segment f valid q i)))
          (sym (overlay_new (picture_of f new) old q (omega (arith, picture_length f new)) ∙ picture_at f new q i))
      by q false e = sym (overlay_old (picture_of f new) old q (omega (arith, ltb-false, picture_length f new)))
