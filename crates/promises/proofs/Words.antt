-- The words of a handle at the C face: decode of them is decode of the handle, and of any others 2.
use Prim.Native.Nat.{ℕ, ◌≤◌}
use mathlib.Core.Path.{◌≡◌, refl, sym, ap, ◌∙◌}
use mathlib.Core.Logic.{◌↔◌}
use mathlib.Core.Bool.{Bool, true, false, ◌&&◌}
use mathlib.Core.List.{List, [], ◌∷◌}
use native.Mathlib.Omega.{arith}
use lib.Dec.{eqb}
use lib.ListN.{length}
use borrow.Author.Tests.{eqb-true, eq-eqb}
use Rattle.checks.specs.Numbers.{number_of, invalid, told_number, Told, leaving}
use Rattle.checks.specs.Checks.{run, Holds}
use Rattle.checks.proofs.Exact.{accepted}
use Rattle.checks.proofs.Rules.{must_no, must_yes}
use Rattle.checks.specs.Sizes.{most64}
use Rattle.seen.specs.Seen.{Seen, seen}
use Rattle.seen.proofs.Blocks.{true_false}
use Rattle.header.specs.declared.Limits.{Limits}
use Rattle.inspection.specs.Inspection.{handle_of, inspected_of}
use Rattle.decoding.specs.Strict.{show_checks, decode_checks}
use Rattle.handle.specs.declared.Handle.{Handle}
use Rattle.handle.specs.declared.Inspected.{Inspected}
use Rattle.handle.specs.Handle.{inspected_with}
use Rattle.face_words.specs.Words.{words_of, same_words}
use Rattle.chelmesut.specs.Face.{words_after, gives_words, words_checks, words_decode_told, Inspect, Decode}
use Rattle.promises.specs.Words.{WordsGiven, WordsDecode}
use Rattle.promises.proofs.Strict.{inspection_exact}
use Rattle.promises.proofs.Numbers.{inspection_number}
use Rattle.promises.proofs.Handles.{given_inspected, shown_valid, handle_exact, decode_exact, handle_given}
use Rattle.std.specs.Prelude.{Result, Ok, Err}
use Rattle.checks.specs.declared.Refused.{Refused}

-- the comparison says yes exactly of equal words
both_true : (a b : Bool) → a && b ≡ true → (a ≡ true) × (b ≡ true)
both_true true b e = (refl, e)
both_true false b e = absurd (true_false e refl)

same_are : (a b : List ℕ) → same_words a b ≡ true → a ≡ b
unfolding same_words
same_are [] [] e = refl
same_are [] (y ∷ b) e = absurd (true_false e refl)
same_are (x ∷ a) [] e = absurd (true_false e refl)
same_are (x ∷ a) (y ∷ b) e =
    let p = both_true (eqb x y) (same_words a b) e in
    rw (eqb-true x y p.0, same_are a b p.1)

same_self : (a : List ℕ) → same_words a a ≡ true
unfolding same_words
same_self [] = refl
same_self (x ∷ a) = rw (eq-eqb x x refl, same_self a)

pub words_equal : (a b : List ℕ) → (same_words a b ≡ true) ↔ (a ≡ b)
words_equal a b = (same_are a b, λ e. rw e (same_self b))

-- words pass exactly if they are those of the page's handle and that handle is given
module _ (v : Seen) (page : ℕ) (l : Limits) (words : List ℕ) where
  given_exact : (gives_words (inspected_of v page l most64) words ≡ true) ↔ WordsGiven v page l words
  given_exact = (
    λ q. by (inspected_of v page l most64) refl q,
    λ g. rw ((given_inspected v l (handle_of v page)).0 g.given).1 ((words_equal (words_of (handle_of v page)) words).1 (sym g.words_are)),
  )
    where
      by : (t : Result Inspected Refused) → inspected_of v page l most64 ≡ t → gives_words t words ≡ true → WordsGiven v page l words
      by (Ok i) e q =
          let same = ((inspection_exact v page l most64 i.left i.handle).0 e).handle_is in
          record {
            given = (given_inspected v l (handle_of v page)).1 (i.left, e ∙ ap (λ (g : Handle). Ok (inspected_with g i.left)) same);
            words_are = sym ((words_equal (words_of i.handle) words).0 q) ∙ ap words_of same;
          }
      by (Err r) e q = absurd (true_false q refl)

-- the buffers and the charge never answer 2
shown_number : (h : Handle) (output scratch u : ℕ) → told_number (run (show_checks h output scratch) u) ≡ number_of invalid → ⊥
shown_number h output scratch u q = by (run (show_checks h output scratch) u) refl q
  where
    by : (t : Told) → run (show_checks h output scratch) u ≡ t → told_number t ≡ number_of invalid → ⊥
    by (Ok w) e z = omega arith
    by (Err r) e z = shown_valid h output scratch u r e z

module _ (file : List ℕ) (page : ℕ) (l : Limits) (words : List ℕ) (units : ℕ) (output scratch : List ℕ) where
  -- where they are given the buffers and the charge decide
  by_handle : WordsGiven (seen file []) page l words → words_decode_told file page l words units output scratch
      ≡ run (show_checks (handle_of (seen file []) page) (length output) (length scratch)) units
  unfolding words_checks
  by_handle g = sym (must_yes _ _ _ _ ((given_exact (seen file []) page l words).1 g) refl)

  -- and decode of them is decode of the handle
  pub words_decode : WordsGiven (seen file []) page l words → words_decode_told file page l words units output scratch
      ≡ run (decode_checks (seen file []) l (handle_of (seen file []) page) (length output) (length scratch)) units
  words_decode g = by_handle g ∙ must_yes _ _ _ _ ((handle_exact (seen file []) l (handle_of (seen file []) page)).1 g.given) refl

  -- any others are refused with 2, and nothing is taken
  pub words_refused : (WordsGiven (seen file []) page l words → ⊥) → words_decode_told file page l words units output scratch ≡ Err (leaving invalid units)
  unfolding words_checks
  words_refused other = by (gives_words (inspected_of (seen file []) page l most64) words) refl
    where
      by : (t : Bool) → gives_words (inspected_of (seen file []) page l most64) words ≡ t → words_decode_told file page l words units output scratch
          ≡ Err (leaving invalid units)
      by true q = absurd (other ((given_exact (seen file []) page l words).0 q))
      by false q = sym (must_no _ _ _ _ q)

  -- so 2 is the answer to these alone
  pub words_invalid :
      (told_number (words_decode_told file page l words units output scratch) ≡ number_of invalid) ↔ (WordsGiven (seen file []) page l words → ⊥)
  words_invalid = (
    λ q g. shown_number (handle_of (seen file []) page) (length output) (length scratch) units (sym (ap told_number (by_handle g)) ∙ q),
    λ other. ap told_number (words_refused other),
  )

  -- decode of words succeeds, and leaves so many units, exactly if they are those of the page's handle and decode of that does
  pub words_exact : (w : ℕ) → (words_decode_told file page l words units output scratch ≡ Ok w)
      ↔ WordsDecode (seen file []) page l words (length output) (length scratch) units w
  unfolding words_checks Holds
  words_exact w =
      let v = seen file [] in
      let exact = decode_exact v l (handle_of v page) (length output) (length scratch) units w in (
        λ e.
            let g = (given_exact v page l words).0 ((accepted (words_checks v page l words (length output) (length scratch)) units w).0 e).holds.0 in
            record { words_are = g.words_are; decodes = exact.0 (sym (words_decode g) ∙ e) },
        λ d. words_decode (record { given = d.decodes.given; words_are = d.words_are }) ∙ exact.1 d.decodes,
      )

-- an inspection that answers 0 writes the words of its page's handle, which is given
module _ (file : List ℕ) (page : ℕ) (l : Limits) (u : ℕ) (units : u ≤ most64) (old words : List ℕ) (left : ℕ)
    (inspect : Inspect file page l u old 0 left words) where
  pub inspected_words : WordsGiven (seen file []) page l words
  inspected_words =
      let v = seen file [] in
      let (h, w, gave) = (inspection_number file page l u).0 (sym inspect.number_is) in
      let same = ((inspection_exact v page l u w h).0 gave).handle_is in
      record {
        given = rw same at (handle_given v l page u w h gave units);
        words_are = inspect.words_are ∙ (ap (λ (t : Result Inspected Refused). words_after t old) gave ∙ ap words_of same);
      }

  -- so decode of them never answers 2
  pub inspect_then_decode : (units : ℕ) (output scratch : List ℕ) (n rest : ℕ) (output' scratch' : List ℕ)
      → Decode file page l words units output scratch n rest output' scratch' → n ≡ number_of invalid → ⊥
  inspect_then_decode units output scratch n rest output' scratch' d e =
      (words_invalid file page l words units output scratch).0 (sym d.number_is ∙ e) inspected_words
