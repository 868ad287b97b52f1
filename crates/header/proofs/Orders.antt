-- The header: the loop over four bytes, and the answer by the strings that they make.
use Prim.Native.Nat.{ℕ, suc, ◌+◌, ◌<◌, ◌≤◌}
use mathlib.Core.Path.{◌≡◌, refl, sym}
use mathlib.Core.List.{List, [], ◌∷◌}
use mathlib.Core.Bool.{Bool, true, false, ◌||◌}
use native.Mathlib.Omega.{arith}
use lib.ListN.{length, get_or, take, drop}
use lib.Seq.{drop-cons}
use lib.Dec.{eqb}
use borrow.Author.Rules.{rules}
use borrow.Author.Tests.{eq-eqb, ne_eqb, eqb-true, eqb-false}
use Rattle.std.specs.Cmp.Lexicographic.{pointwise}
use Rattle.checks.specs.Numbers.{invalid, unsupported}
use Rattle.checks.specs.Checks.{verdict, cost}
use Rattle.checks.proofs.Rules.{refused_before, gives_after}
use Rattle.seen.specs.Seen.{Seen, seen, there, There, four}
use Rattle.seen.proofs.Words.{byte_came, there_part}
use Rattle.header.specs.Header.{limit_checks, begins, little_endian, big_endian, long_little, long_big, order_checks, header_checks, start_of}
use Rattle.header.specs.declared.Limits.{Limits}
use Rattle.header.specs.declared.Start.{Start}
use Rattle.checks.specs.declared.Refusal.{Refusal}
use Rattle.std.specs.Prelude.{Result, Ok, Err}

eqb_swapped : (a b : ℕ) (t : Bool) → eqb a b ≡ t → eqb b a ≡ t
eqb_swapped a b true e = eq-eqb b a (sym (eqb-true a b e))
eqb_swapped a b false e = ne_eqb b a (λ z. eqb-false a b e (sym z))

-- the bytes from i on are those of a string, as the library compares them
pub begins_lem : (file map : List ℕ) → There (seen file map) 0 8 → (mark : List ℕ) (i : ℕ) → i + length mark ≤ 8
    → pointwise eqb mark (take (length mark) (drop i file)) ≡ begins (seen file map) i mark
unfolding begins
begins_lem file map t [] i h = refl
begins_lem file map t (x ∷ xs) i h =
    let l : i < length file = omega (arith, t.in_file) in
    let b = byte_came file map 0 8 t i (omega arith) (omega arith) in
    let r = begins_lem file map t xs (suc i) (omega arith) in
    rw (drop-cons file i 0 l, b, r, eqb_swapped x (get_or file i 0) (eqb x (get_or file i 0)) refl)

-- the first offset is there with the header
pub first_there : (v : Seen) → There v 0 8 → There v 4 4
first_there v t = there_part v 0 8 4 4 t (omega arith) (omega arith)

-- each return against the two checks
module _ (v : Seen) {a b : Bool} (ea : a ≡ long_little v) (eb : b ≡ long_big v) where
  pub is_long : a || b ≡ true → Err unsupported ≡ start_of v (order_checks v)
  unfolding order_checks verdict
  is_long t = rw (← ea, ← eb, t)

  module _ {c d : Bool} (na : a ≡ false) (nb : b ≡ false) (ec : c ≡ big_endian v) (ed : d ≡ little_endian v) where
    pub is_ordered : {n : ℕ} → c || d ≡ true → n ≡ four c v 4 → Ok (record { big = c; first = n }) ≡ start_of v (order_checks v)
    unfolding order_checks verdict
    is_ordered t en = rw (← ea, ← eb, na, nb, ← ec, ← ed, t, en)

    pub is_other : c ≡ false → d ≡ false → Err invalid ≡ start_of v (order_checks v)
    unfolding order_checks verdict
    is_other nc nd = rw (← ea, ← eb, na, nb, ← ec, ← ed, nc, nd)

pub ruleset orders = (first_there, is_long, is_ordered, is_other, rules)

-- the eight bytes are needed first
module _ (v : Seen) where
  pub header_refused : {e : Refusal} → Err e ≡ verdict (there v 0 8) → Err e ≡ start_of v (header_checks v)
  unfolding header_checks
  header_refused q = refused_before (there v 0 8) (order_checks v) _ q

  pub header_read : {s : Result Start Refusal} {y : Unit {0}} → Ok y ≡ verdict (there v 0 8) → s ≡ start_of v (order_checks v) → s ≡ start_of v (header_checks v)
  unfolding header_checks
  header_read q e = gives_after (there v 0 8) (order_checks v) _ q e

-- neither the limits on a file nor its header charge anything
pub limits_free : (size page : ℕ) (l : Limits) → cost (limit_checks size page l) ≡ 0
unfolding cost
limits_free size page l = refl

pub header_free : (v : Seen) → cost (header_checks v) ≡ 0
unfolding cost header_checks order_checks
header_free v = refl
