-- Blocks of a file of which only the size is known, and a map that is written: what it says then.
use Prim.Native.Nat.{ℕ, ◌-◌, ◌<◌, ◌≤◌}
use mathlib.Core.Path.{◌≡◌, refl}
use mathlib.Core.List.{List}
use mathlib.Core.Bool.{true, false}
use lib.ListN.{length, get_or, set, length-set}
use lib.Seq.{get_or-set_same, get_or-set_other}
use borrow.Author.Rules.{rules}
use Rattle.lists.proofs.Lesser.{lesser_first, lesser_second}
use Rattle.lists.proofs.Overlay.{only_zeros}
use Rattle.seen.specs.Seen.{block_start, block_length, block_came, none_came, also_came}

module _ (size b : ℕ) where
  pub whole_block : 512 < size - block_start b → 512 ≡ block_length size b
  whole_block h = lesser_first 512 (size - block_start b) h

  pub last_block : size - block_start b ≤ 512 → size - block_start b ≡ block_length size b
  last_block h = lesser_second 512 (size - block_start b) h

module _ (b : ℕ) (map : List ℕ) where
  pub block_marked : set map b 1 ≡ also_came b map
  unfolding also_came
  block_marked = refl

  -- as long as before
  pub also_length : length (also_came b map) ≡ length map
  unfolding also_came
  also_length = length-set map b 1

  -- the block came, and the others as before
  pub also_came_lem : b < length map → block_came (also_came b map) b ≡ true
  unfolding also_came block_came
  also_came_lem h = rw (get_or-set_same map b 1 0 h)

  module _ (c : ℕ) (other : c ≡ b → ⊥) where
    pub also_byte : get_or (also_came b map) c 0 ≡ get_or map c 0
    unfolding also_came
    also_byte = get_or-set_other map b c 1 0 other

    pub also_other : block_came (also_came b map) c ≡ block_came map c
    unfolding block_came
    also_other = rw also_byte

pub none_came_lem : (n b : ℕ) → block_came (none_came n) b ≡ false
unfolding block_came
none_came_lem n b = rw (only_zeros n b)

pub ruleset arrivals = (whole_block, last_block, block_marked, rules)
