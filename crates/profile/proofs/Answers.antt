-- The profile's tables against rules 3.1 and 2.10, and its checks charge nothing.
use Prim.Native.Nat.{ℕ}
use mathlib.Core.Path.{◌≡◌, refl}
use mathlib.Core.List.{List, [], ◌∷◌, ◌++◌, map}
use mathlib.Core.Bool.{Bool, true, false, ◌||◌}
use lib.ListN.{get_or}
use lib.Dec.{eqb}
use Rattle.lists.specs.Lists.{pick}
use Rattle.head.specs.Heads.{Head, channels_of}
use Rattle.checks.specs.Checks.{cost}
use Rattle.seen.specs.Seen.{Seen}
use Rattle.tags.specs.Slots.{tile_offsets, defaults, entry_in, present}
use Rattle.header.specs.declared.Limits.{Limits}
use Rattle.profile.specs.Profile.{scalars, scalar_checks, step2, step3, each_is, sample_checks, step4, step5, step6, step7, step8, numbers_of, head_in, shape_of, shape_in, profile_checks}
use Rattle.profile.specs.Inner.{from7, from5}
use Rattle.profile.specs.declared.Numbers.{Numbers}

-- the scalar slots, and the default of each: slot 9: 4294967295; 3, 5, 7, 8, 11, 12: 1; else 0
abbrev one_of : ℕ → List ℕ → Bool
one_of k [] = false
one_of k (x ∷ xs) = eqb k x || one_of k xs

abbrev rule_default : ℕ → ℕ
rule_default k = pick (eqb k 9) 4294967295 (pick (one_of k (3 ∷ 5 ∷ 7 ∷ 8 ∷ 11 ∷ 12 ∷ [])) 1 0)

pub scalar_slots_are : scalars ≡ 0 ∷ 1 ∷ 3 ∷ 4 ∷ 5 ∷ 7 ∷ 8 ∷ 9 ∷ 11 ∷ 12 ∷ 13 ∷ 14 ∷ 17 ∷ []
unfolding scalars
scalar_slots_are = refl

pub defaults_are : map (λ k. get_or defaults k 0) scalars ≡ map rule_default scalars
unfolding scalars defaults
defaults_are = refl

-- the profile charges nothing
blocks_free : (v : Seen) (big : Bool) (slots : List ℕ) (l : Limits) (n : Numbers) (t : Bool) → cost (from5 v big slots (shape_of n t) l) ≡ 0
unfolding cost from5 from7 step5 step6 step7 step8 shape_of
blocks_free v big slots l n true = refl
blocks_free v big slots l n false = refl

pub profile_free : (v : Seen) (big : Bool) (slots : List ℕ) (l : Limits) → cost (profile_checks v big slots l) ≡ 0
unfolding cost profile_checks scalar_checks scalars step2 step3 step4 sample_checks each_is from5 from7
profile_free v big slots l = by (head_in (numbers_of v big slots))
  where
    by : (head : Head) → cost (step4 v big (channels_of head) slots ++ from5 v big slots (shape_in slots (numbers_of v big slots)) l) ≡ 0
    by false = blocks_free v big slots l (numbers_of v big slots) (present (entry_in slots tile_offsets))
    by true = blocks_free v big slots l (numbers_of v big slots) (present (entry_in slots tile_offsets))
