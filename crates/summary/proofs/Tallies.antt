-- How many elements of a list are one asked for, as std counts them.
use Prim.Native.Nat.{ℕ, ◌+◌}
use mathlib.Core.Path.{◌≡◌, refl, sym, ap, ◌∙◌}
use mathlib.Core.Bool.{Bool, true, false, cond}
use mathlib.Core.List.{List, [], ◌∷◌}
use native.Mathlib.Nat.{add-zero, zero-add, add_assoc}
use Rattle.std.specs.Prelude.{◌==◌}
use Rattle.std.specs.List.{count_by, fold}
use Rattle.lists.specs.Lists.{pick}
use Rattle.summary.specs.Marks.{same_of, tally_of}

counting : ℕ → ℕ → ℕ → ℕ
counting x n y = n + cond (y == x) 1 0

one : (t : Bool) → ◌≡◌ {A = ℕ} (pick t 1 0) (cond t 1 0)
one true = refl
one false = refl

counted : (x n : ℕ) (ys : List ℕ) → n + tally_of x ys ≡ fold (counting x) n ys
unfolding tally_of counting
counted x n [] = add-zero n
counted x n (y ∷ ys) =
    sym (add_assoc n (same_of y x) (tally_of x ys)) ∙ counted x (n + same_of y x) ys
    ∙ ap (λ (m : ℕ). fold (counting x) (n + m) ys) (one (y == x))

pub tally_counts : (x : ℕ) (ys : List ℕ) → tally_of x ys ≡ count_by (λ y. y == x) ys
unfolding counting
tally_counts x ys = sym (zero-add (tally_of x ys)) ∙ counted x 0 ys
