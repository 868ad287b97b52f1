-- A lent buffer that is filled from its start to its end.
use Prim.Native.Nat.{ℕ, ◌+◌, ◌<◌, ◌≤◌}
use mathlib.Core.Path.{◌≡◌, refl, sym, subst, ◌∙◌}
use mathlib.Core.List.{List}
use native.Mathlib.Omega.{arith}
use borrow.Author.Rules.{rules}
use lib.ListN.{length, set, get_or}
use lib.Seq.{ext_get_or}
use Rattle.lists.specs.Lists.{tabulate}
use Rattle.lists.proofs.Overlay.{length_span, get_d_tabulate, listed}
use Rattle.lists.proofs.Wrote.{Filling, filling_none, filling_more, filling_exactly}

-- a list by its elements
pub tabulated : (f : ℕ → ℕ) (n : ℕ) (xs : List ℕ) → length xs ≡ n → ((k : ℕ) → k < n → get_or xs k 0 ≡ f k) → xs ≡ tabulate n f
tabulated f n xs long each =
    ext_get_or 0 xs (tabulate n f) (long ∙ sym (length_span f 0 n))
    (λ k h. let l : k < n = subst (λ (m : ℕ). k < m) long h in each k l ∙ sym (get_d_tabulate f n k l))

-- a copy, of which the first i elements are made
module _ (from old : List ℕ) where
  abbrev pub Copied : List ℕ → ℕ → Type 0
  Copied out i = Filling (λ k. get_or from k 0) (length old) old out i

  pub copied_none : Copied old 0
  copied_none = filling_none _ (length old) old (omega arith)

  module _ (out : List ℕ) (i : ℕ) (s : Copied out i) where
    pub copied_more : i < length out → Copied (set out i (get_or from i 0)) (i + 1)
    copied_more h = filling_more _ (length old) old out i s _ (omega (arith, s.long)) refl

    pub copied_all : length old ≤ i → length old ≡ length from → out ≡ from
    copied_all h l = filling_exactly _ (length old) old out i s h refl ∙ rw l (sym (listed (length from) from refl))

pub ruleset copies = (copied_none, copied_more, copied_all, rules)
