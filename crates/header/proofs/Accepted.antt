-- A file's header passes its checks exactly if it is fine, and the number of the answer is that of its checks.
use Prim.Native.Nat.{ℕ}
use mathlib.Core.Path.{◌≡◌, refl}
use mathlib.Core.Logic.{◌↔◌, ◌⊎◌, inl, inr}
use mathlib.Core.List.{[], ◌∷◌}
use mathlib.Core.Bool.{Bool, true, false, ◌&&◌, ◌||◌}
use lib.Dec.{eqb}
use borrow.Author.Tests.{eqb-true, eq-eqb}
use Rattle.checks.specs.Checks.{Holds}
use Rattle.checks.proofs.Exact.{holds_then, holds_both}
use Rattle.seen.specs.Seen.{Seen, there}
use Rattle.seen.proofs.Blocks.{true_false}
use Rattle.seen.proofs.Words.{there_holds, holds_there}
use Rattle.header.specs.Header.{begins, little_endian, big_endian, order_checks, header_checks, Opens, HeaderFine}

-- four bytes
bytes_open : (v : Seen) (a b c d : ℕ) → begins v 0 (a ∷ b ∷ c ∷ d ∷ []) ≡ true → Opens v a b c d
unfolding begins
bytes_open v a b c d e = by (eqb (v.byte 0) a) (eqb (v.byte 1) b) (eqb (v.byte 2) c) (eqb (v.byte 3) d) refl refl refl refl e
  where
    by : (p q r s : Bool) → eqb (v.byte 0) a ≡ p → eqb (v.byte 1) b ≡ q → eqb (v.byte 2) c ≡ r → eqb (v.byte 3) d ≡ s
        → p && (q && (r && (s && true))) ≡ true → Opens v a b c d
    by true true true true w x y z e = record { byte_0 = eqb-true _ _ w; byte_1 = eqb-true _ _ x; byte_2 = eqb-true _ _ y; byte_3 = eqb-true _ _ z }
    by true true true false w x y z e = absurd (true_false e refl)
    by true true false s w x y z e = absurd (true_false e refl)
    by true false r s w x y z e = absurd (true_false e refl)
    by false q r s w x y z e = absurd (true_false e refl)

open_bytes : (v : Seen) (a b c d : ℕ) → Opens v a b c d → begins v 0 (a ∷ b ∷ c ∷ d ∷ []) ≡ true
unfolding begins
open_bytes v a b c d o = rw (o.byte_0, o.byte_1, o.byte_2, o.byte_3, eq-eqb a a refl, eq-eqb b b refl, eq-eqb c c refl, eq-eqb d d refl)

-- a test of four bytes, and so of the byte order, in numbers
pub opens : (v : Seen) (a b c d : ℕ) → (begins v 0 (a ∷ b ∷ c ∷ d ∷ []) ≡ true) ↔ Opens v a b c d
opens v a b c d = (bytes_open v a b c d, open_bytes v a b c d)

module _ (v : Seen) where
  opens_order : Opens v 0x49 0x49 0x2A 0x00 ⊎ Opens v 0x4D 0x4D 0x00 0x2A → Holds (order_checks v)
  unfolding Holds order_checks begins
  opens_order (inl o) = rw (o.byte_0, o.byte_1, o.byte_2, o.byte_3) (refl, (refl, tt))
  opens_order (inr o) = rw (o.byte_0, o.byte_1, o.byte_2, o.byte_3) (refl, (refl, tt))

  order_opens : (b l : Bool) → big_endian v ≡ b → little_endian v ≡ l → b || l ≡ true → Opens v 0x49 0x49 0x2A 0x00 ⊎ Opens v 0x4D 0x4D 0x00 0x2A
  order_opens true l p q e = inr ((opens v 0x4D 0x4D 0x00 0x2A).0 p)
  order_opens false true p q e = inl ((opens v 0x49 0x49 0x2A 0x00).0 q)
  order_opens false false p q e = absurd (true_false e refl)

  header_is : Holds (header_checks v) → HeaderFine v
  unfolding Holds header_checks order_checks
  header_is h =
      let x = holds_then (there v 0 8) (order_checks v) h in
      record { eight_bytes = holds_there v 0 8 x.0; byte_order = order_opens (big_endian v) (little_endian v) refl refl x.1.1.0 }

  header_passes : HeaderFine v → Holds (header_checks v)
  unfolding header_checks
  header_passes f = holds_both (there v 0 8) (order_checks v) (there_holds v 0 8 f.eight_bytes) (opens_order f.byte_order)

  pub header_fine : Holds (header_checks v) ↔ HeaderFine v
  header_fine = (header_is, header_passes)
