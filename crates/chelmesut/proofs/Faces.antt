-- What decode answers and leaves, where the handle comes as words; and the bound.
use Prim.Native.Nat.{ℕ}
use mathlib.Core.Path.{◌≡◌, refl, sym, ap, ◌∙◌}
use mathlib.Core.Bool.{Bool, true, false}
use mathlib.Core.List.{List, []}
use lib.ListN.{length}
use borrow.Author.Rules.{rules}
use Rattle.checks.specs.Numbers.{number_of, invalid, told_number, told_left, Told, leaving}
use Rattle.checks.specs.Checks.{run, on_pass}
use Rattle.checks.specs.Sizes.{most64}
use Rattle.checks.proofs.Rules.{must_no, must_yes}
use Rattle.seen.specs.Seen.{seen}
use Rattle.header.specs.declared.Limits.{Limits}
use Rattle.inspection.specs.Inspection.{handle_of, inspected_of}
use Rattle.decoding.specs.Strict.{show_checks, picture_over, cleared_over}
use Rattle.decoding.specs.Inner.{HandleShowable}
use Rattle.handle.specs.declared.Handle.{Handle}
use Rattle.checks.specs.declared.Refused.{Refused}
use Rattle.handle.specs.declared.Inspected.{Inspected}
use Rattle.decoding.proofs.Claims.{inspected_showable, given_handle}
use Rattle.face_words.specs.Words.{words_of, same_words}
use Rattle.face_leaves.specs.Leaves.{WorkLimit}
use Rattle.chelmesut.specs.Face.{gives_words, words_checks, words_decode_told, Decode}
use Rattle.std.specs.Prelude.{Result, Ok, Err}

-- decode, by what it was told
module _ (file : List ℕ) (page : ℕ) (l : Limits) (words : List ℕ) (units : ℕ) (output scratch : List ℕ) where
  abbrev h₀ : Handle
  h₀ = handle_of (seen file []) page

  abbrev told₀ : Told
  told₀ = words_decode_told file page l words units output scratch

  -- the buffers after an answer about a handle
  abbrev shown : Told → Handle → List ℕ
  shown t h = on_pass t (picture_over (seen file []) h output) output

  abbrev cleared : Told → Handle → List ℕ
  cleared t h = on_pass t (cleared_over h scratch) scratch

  abbrev Done : ℕ → ℕ → List ℕ → List ℕ → Type 0
  Done = Decode file page l words units output scratch

  as_told : (t : Told) → t ≡ told₀ → (n left : ℕ) → n ≡ told_number t → left ≡ told_left t
      → (x y : List ℕ) → x ≡ shown t h₀ → y ≡ cleared t h₀ → Done n left x y
  as_told t e n left en el x y ex ey = record {
    number_is = en ∙ ap told_number e;
    left_is = el ∙ ap told_left e;
    output_is = ex ∙ ap (λ (s : Told). shown s h₀) e;
    scratch_is = ey ∙ ap (λ (s : Told). cleared s h₀) e;
  }

  -- the limits are those that the six numbers stand for
  module _ {m : Limits} (em : m ≡ l) where
    forged : gives_words (inspected_of (seen file []) page l most64) words ≡ false → {n : ℕ} → n ≡ number_of invalid → Done n units output scratch
    unfolding words_checks
    forged z en = as_told (Err (leaving invalid units)) (must_no _ _ _ _ z) _ units en refl output scratch refl refl

    pub none_given : {r : Refused} → Err r ≡ inspected_of (seen file []) page m most64 → {n : ℕ} → n ≡ number_of invalid → Done n units output scratch
    none_given q en = forged (ap (λ (i : Result Inspected Refused). gives_words i words) (sym (rw em at q))) en

    module _ {i : Inspected} (q : Ok i ≡ inspected_of (seen file []) page m most64) where
      given_is : Ok i ≡ inspected_of (seen file []) page l most64
      given_is = rw em at q

      pub showable : HandleShowable (seen file []) i.handle
      showable = inspected_showable (seen file []) page l most64 given_is

      module _ {given : List ℕ} (eg : given ≡ words_of i.handle) {b : Bool} (eb : b ≡ same_words given words) where
        matched : gives_words (inspected_of (seen file []) page l most64) words ≡ b
        matched =
            ap (λ (x : Result Inspected Refused). gives_words x words) (sym given_is)
            ∙ sym (eb ∙ ap (λ (g : List ℕ). same_words g words) eg)

        pub words_differ : b ≡ false → {n : ℕ} → n ≡ number_of invalid → Done n units output scratch
        words_differ z en = forged (matched ∙ z) en

        module _ (z : b ≡ true) where
          same : i.handle ≡ h₀
          same = given_handle (seen file []) page l most64 given_is

          told : {t : Told} → t ≡ run (show_checks i.handle (length output) (length scratch)) units → t ≡ told₀
          unfolding words_checks
          told et =
              must_yes _ _ _ _ (matched ∙ z) (et ∙ ap (λ (g : Handle). run (show_checks g (length output) (length scratch)) units) same)

          module _ (x y : List ℕ) where
            pub not_shown : {r : Refused} → Err r ≡ run (show_checks i.handle (length output) (length scratch)) units → x ≡ output → y ≡ scratch
                → {n : ℕ} → n ≡ number_of r.refusal → Done n r.left x y
            not_shown et ex ey en = as_told _ (told et) _ _ en refl x y ex ey

            pub shown_too : {w : ℕ} → Ok w ≡ run (show_checks i.handle (length output) (length scratch)) units
                → x ≡ picture_over (seen file []) i.handle output → y ≡ cleared_over i.handle scratch → Done 0 w x y
            shown_too et ex ey =
                as_told _ (told et) _ _ refl refl x y (ex ∙ ap (λ (g : Handle). picture_over (seen file []) g output) same)
                (ey ∙ ap (λ (g : Handle). cleared_over g scratch) same)

-- the bound, of the limits that the six numbers stand for
pub bounded : (page : ℕ) (l : Limits) (old n new : ℕ) {m : Limits} → m ≡ l → WorkLimit page m old n new → WorkLimit page l old n new
bounded page l old n new e w = rw e at w

pub ruleset bounding = (bounded, rules)
