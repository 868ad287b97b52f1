-- The later bytes of a buffer copied over its front.
use Prim.Native.Nat.{ℕ, ◌-◌}
use mathlib.Core.Path.{◌≡◌, ◌∙◌}
use mathlib.Core.List.{List}
use native.Mathlib.Nat.{zero-add}
use lib.ListN.{length, drop, length-drop}
use lib.Seq.{paste, take-length}
use Rattle.lists.specs.Lists.{overlay}

copied : (old : List ℕ) (start : ℕ) → paste old 0 (drop start old) (length old - start) ≡ overlay (drop start old) old
unfolding overlay
copied old start = rw (← length-drop start old, take-length (drop start old), zero-add (length (drop start old)), overlay)

pub moved : (new old : List ℕ) (start : ℕ) → new ≡ paste old 0 (drop start old) (length old - start) → new ≡ overlay (drop start old) old
moved new old start e = e ∙ copied old start
