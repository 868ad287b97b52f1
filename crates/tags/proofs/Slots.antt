-- The table of slots is that of rule 2.10: numbers in order, and the nineteen tags. That its defaults are is said where the scalar slots are named.
use Prim.Native.Nat.{ℕ}
use mathlib.Core.Path.{◌≡◌, refl}
use mathlib.Core.List.{List, [], ◌∷◌, map}
use Rattle.lists.specs.Lists.{span, tabulate}
use Rattle.tags.specs.Slots.{Slot, slot_table, known}

abbrev rule_tags : List ℕ
rule_tags = 256 ∷ 257 ∷ 258 ∷ 259 ∷ 262 ∷ 266 ∷ 273 ∷ 274 ∷ 277 ∷ 278 ∷ 279 ∷ 284 ∷ 317 ∷ 322 ∷ 323 ∷ 324 ∷ 325 ∷ 338 ∷ 339 ∷ []

pub slots_in_order : map (λ (s : Slot). s.slot) slot_table ≡ tabulate 19 (λ k. k)
unfolding span
slots_in_order = refl

pub tags_are : known ≡ rule_tags
unfolding known
tags_are = refl
