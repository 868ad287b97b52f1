-- Step 2: whether slots 4 and 8 are those of a head, and which head they choose.
use Prim.Native.Nat.{ℕ}
use mathlib.Core.Path.{◌≡◌, sym, ◌∙◌}
use mathlib.Core.Bool.{Bool, true, false}
use lib.Dec.{eqb}
use borrow.Author.Rules.{rules}
use borrow.Author.Tests.{eq-eqb, ne_eqb}
use Rattle.head.specs.Heads.{Head, colour_head, mono_head, channels_of, photometric_of}
use Rattle.profile.specs.Profile.{kind_is, has_head, head_in}
use Rattle.profile.specs.declared.Numbers.{Numbers}

-- of numbers that calls told
module _ (n : Numbers) (head : Head) (p : ℕ) (ep : p ≡ photometric_of head) where
  pub other_photometric : (n.photometric ≡ p → ⊥) → false ≡ kind_is n head
  other_photometric d = rw (← ep, ne_eqb n.photometric p d)

  pub samples_decide : (c : ℕ) → c ≡ channels_of head → n.photometric ≡ p → eqb n.samples c ≡ kind_is n head
  samples_decide c ec e = rw (← ep, ← ec, eq-eqb n.photometric p e)

-- the head is the monochrome one where they are its own
pub head_chosen : (n : Numbers) {r : Bool} → r ≡ kind_is n mono_head → r ≡ head_in n
unfolding head_in
head_chosen n e = e

-- whether it is one of the two, by the answer on the one for colour
module _ (n : Numbers) {colour : Bool} (ec : colour ≡ kind_is n colour_head) where
  pub is_colour : colour ≡ true → true ≡ has_head n
  unfolding has_head
  is_colour q = rw (← ec, q)

  pub mono_decides : {r : Bool} → colour ≡ false → r ≡ kind_is n mono_head → r ≡ has_head n
  unfolding has_head
  mono_decides q e = rw (← ec, q) e

-- the check of that, by the answer
module _ (n : Numbers) {r : Bool} (er : r ≡ has_head n) where
  pub head_known : r ≡ true → has_head n ≡ true
  head_known q = sym er ∙ q

  pub head_unknown : r ≡ false → has_head n ≡ false
  head_unknown q = sym er ∙ q

pub ruleset kinds = (other_photometric, samples_decide, head_chosen, is_colour, mono_decides, rules)
