-- Numbers of a trace, and what it begins with: each answer of the code is that of the definition.
use Prim.Native.Nat.{ℕ, ◌+◌, ◌-◌, ◌*◌, ◌<◌, ◌≤◌}
use mathlib.Core.Path.{◌≡◌, refl, ap}
use mathlib.Core.List.{List, [], ◌∷◌}
use native.Mathlib.Omega.{arith}
use lib.ListN.{length, take, drop, get_or}
use borrow.Author.Tests.{lt-ltb, le-ltb, ne_eqb}
use Rattle.lists.specs.Lists.{span}
use Rattle.lists.proofs.Overlay.{listed}
use Rattle.words64.specs.Words64.{number_from}
use Rattle.trace.specs.declared.Next.TheVariants.{Cut, Foreign, Start, Block}
use Rattle.trace.specs.Trace.{start_in, block_in, next_of}

-- two bytes, and eight
pub short_read : (p : List ℕ) (a b : ℕ) → length p ≡ 2 → a ≡ get_or p 0 0 → b ≡ get_or p 1 0 → a + 256 * b ≡ number_from p
unfolding number_from span
short_read p a b n ea eb = omega (arith, ea, eb, ap number_from (listed 2 p n))

-- a start and a block after their first byte
module _ (t : List ℕ) where
  pub start_cut : length t < 8 → Cut ≡ start_in t
  start_cut h = rw (lt-ltb _ _ h)

  pub block_cut : length t < 10 → Cut ≡ block_in t
  block_cut h = rw (lt-ltb _ _ h)

  pub start_read : {n : ℕ} → 8 ≤ length t → n ≡ number_from (take 8 t) → Start n ≡ start_in t
  start_read h e = rw (le-ltb _ _ h, e)

  module _ (h : 10 ≤ length t) {size : ℕ} (es : size ≡ number_from (take 2 (drop 8 t))) where
    pub bytes_cut : length t - 10 < size → Cut ≡ block_in t
    bytes_cut c = rw (le-ltb _ _ h, ← es, lt-ltb _ _ c)

    pub block_read : {n : ℕ} → size ≤ length t - 10 → n ≡ number_from (take 8 t) → Block n size ≡ block_in t
    block_read c e = rw (le-ltb _ _ h, ← es, le-ltb _ _ c, e)

pub ruleset beginnings = (start_cut, block_cut, start_read, bytes_cut, block_read)

-- a first byte that begins no message
pub first_foreign : (t : List ℕ) → (length t ≡ 0 → ⊥) → (get_or t 0 0 ≡ 1 → ⊥) → (get_or t 0 0 ≡ 2 → ⊥) → Foreign ≡ next_of t
unfolding next_of
first_foreign [] d k m = absurd (d refl)
first_foreign (b ∷ rest) d k m = rw (ne_eqb b 1 k, ne_eqb b 2 m)
