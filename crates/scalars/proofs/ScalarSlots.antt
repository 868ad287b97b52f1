-- The scalar slots: the two tables, and the loop over the slots.
use Prim.Native.Nat.{ℕ, ◌+◌, ◌<◌, ◌≤◌}
use mathlib.Core.Path.{◌≡◌, refl, sym, ◌∙◌}
use mathlib.Core.List.{List}
use mathlib.Core.Bool.{Bool, true, false}
use native.Mathlib.Numerals.{add-one}
use lib.ListN.{length, get_or, drop, drop_of_length-le}
use lib.Seq.{drop-cons}
use lib.Dec.{ltb, ltb→lt}
use borrow.Author.Rules.{rules}
use borrow.Author.Tests.{eq-eqb, ne_eqb, not-true, not-false}
use Rattle.lists.proofs.Table.{at}
use Rattle.checks.specs.Numbers.{invalid, no_refusal}
use Rattle.checks.specs.Checks.{verdict}
use Rattle.seen.specs.Seen.{Seen}
use Rattle.entries.specs.Values.{has_values, scalar_of}
use Rattle.tags.specs.Slots.{image_width, image_length, compression, photometric, fill_order, orientation, samples_per_pixel, rows_per_strip, planar_configuration, predictor, tile_width, tile_length, defaults, entry_in}
use Rattle.tags.proofs.Entries.{entry_is_there, slot_is_there}
use Rattle.profile.specs.declared.Numbers.{Numbers}
use Rattle.profile.specs.Profile.{scalars, scalar_fine, scalar_checks, step1, slot_number, numbers_of}
use Rattle.std.specs.Prelude.{Err}

-- each scalar slot is a slot, and each default has 32 bits
pub slot_small : (i : ℕ) → i < 13 → get_or scalars i 0 < 19
unfolding scalars
slot_small i h = ltb→lt _ 19 (at (λ _ x. ltb x 19) scalars tt i h)

pub default_small : (k : ℕ) → k < 19 → get_or defaults k 0 < 4294967296
unfolding defaults
default_small k h = ltb→lt _ 4294967296 (at (λ _ x. ltb x 4294967296) defaults tt k h)

-- one slot
module _ (v : Seen) (big : Bool) (slots : List ℕ) (k : ℕ) where
  pub absent_fine : entry_in slots k ≡ 0 → true ≡ scalar_fine v big slots k
  unfolding scalar_fine
  absent_fine z = simp (eq-eqb _ _ z)

  pub single_fine : {r : Bool} → (entry_in slots k ≡ 0 → ⊥) → r ≡ has_values v big (entry_in slots k) 1 → r ≡ scalar_fine v big slots k
  unfolding scalar_fine
  single_fine n e = simp (ne_eqb _ _ n) e

  pub number_absent : {r : ℕ} → entry_in slots k ≡ 0 → r ≡ get_or defaults k 0 → r ≡ slot_number v big slots k
  unfolding slot_number
  number_absent z e = simp (eq-eqb _ _ z) e

  pub number_read : {r : ℕ} → (entry_in slots k ≡ 0 → ⊥) → r ≡ scalar_of v big (entry_in slots k) → r ≡ slot_number v big slots k
  unfolding slot_number
  number_read n e = simp (ne_eqb _ _ n) e

-- the numbers by name
module _ (v : Seen) (big : Bool) (slots : List ℕ) where
  abbrev Reads : ℕ → ℕ → Type 0
  Reads r k = r ≡ slot_number v big slots k

  module _ (w h c p f o s r l d tw th : ℕ)
      (e0 : Reads w image_width) (e1 : Reads h image_length) (e3 : Reads c compression) (e4 : Reads p photometric) (e5 : Reads f fill_order)
      (e7 : Reads o orientation) (e8 : Reads s samples_per_pixel) (e9 : Reads r rows_per_strip) (e11 : Reads l planar_configuration)
      (e12 : Reads d predictor) (e13 : Reads tw tile_width) (e14 : Reads th tile_length) where
    abbrev named : Numbers
    named = record {
      width = w;
      height = h;
      compression = c;
      photometric = p;
      fill_order = f;
      orientation = o;
      samples = s;
      strip_rows = r;
      planar = l;
      predictor = d;
      tile_width = tw;
      tile_height = th;
    }

    pub numbers_read : named ≡ numbers_of v big slots
    unfolding numbers_of
    numbers_read = rw (e0, e1, e3, e4, e5, e7, e8, e9, e11, e12, e13, e14)

-- the loop: the slots up to i are fine, so the answer is that of the others
pub record Passing (v : Seen) (big : Bool) (slots ks : List ℕ) (i : ℕ) : Type 0 where
  pub same : verdict (scalar_checks v big slots ks) ≡ verdict (scalar_checks v big slots (drop i ks))

pub none_passed : (v : Seen) (big : Bool) (slots ks : List ℕ) → Passing v big slots ks 0
none_passed v big slots ks = record { same = refl }

module _ (v : Seen) (big : Bool) (slots : List ℕ) (i : ℕ) (p : Passing v big slots scalars i) where
  module _ (h : i < 13) (k : ℕ) (ek : k ≡ get_or scalars i 0) {r : Bool} (er : r ≡ scalar_fine v big slots k) where
    some_left : i < length scalars
    unfolding scalars
    some_left = h

    fine_is : r ≡ scalar_fine v big slots (get_or scalars i 0)
    fine_is = rw (← ek) er

    pub slot_malformed : r ≡ false → Err invalid ≡ verdict (step1 v big slots)
    unfolding verdict scalar_checks
    slot_malformed f = sym (p.same ∙ rw (drop-cons scalars i 0 some_left, ← fine_is, f))

    pub slot_passed : r ≡ true → Passing v big slots scalars (i + 1)
    unfolding verdict scalar_checks
    slot_passed f = record { same = p.same ∙ rw (drop-cons scalars i 0 some_left, add-one i, ← fine_is, f) }

  none_left : 13 ≤ i → length scalars ≤ i
  unfolding scalars
  none_left h = h

  pub all_passed : 13 ≤ i → no_refusal ≡ verdict (step1 v big slots)
  unfolding verdict scalar_checks
  all_passed h = sym (p.same ∙ rw (drop_of_length-le scalars (none_left h)))

pub ruleset scalar_rules = (
  slot_small,
  default_small,
  entry_is_there,
  slot_is_there,
  absent_fine,
  single_fine,
  number_absent,
  number_read,
  none_passed,
  slot_malformed,
  slot_passed,
  all_passed,
  not-true,
  not-false,
  rules,
)
