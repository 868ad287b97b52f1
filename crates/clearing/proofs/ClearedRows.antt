-- Rows of zeros, one after the other a pitch apart: the loop that clears them.
use Prim.Native.Nat.{ℕ, ◌+◌, ◌-◌, ◌*◌, ◌^◌, ◌<◌, ◌≤◌}
use mathlib.Core.Path.{◌≡◌, refl, ap, ◌∙◌}
use mathlib.Core.List.{List}
use native.Mathlib.Omega.{arith}
use borrow.Author.Rules.{rules}
use borrow.Rule.Slice.PartMut.{mid_of, put_mid, mid_len}
use mir.Syntax.{w64}
use mir.Val.{Fits}
use lib.ListN.{length, get_or, replicate, length-replicate, get_or-replicate}
use Rattle.lists.specs.Lists.{spread}
use Rattle.lists.proofs.Spread.{Spreading, spreading_none, spreading_fits, spreading_more, spreading_all}
use Rattle.clearing.specs.Inner.{zero_row, Clearable}

row_is : (size r : ℕ) → replicate size 0 ≡ zero_row size r
unfolding zero_row
row_is size r = refl

pub row_long : (size r : ℕ) → length (zero_row size r) ≡ size
unfolding zero_row
row_long size r = length-replicate size 0

pub row_zero : (size r j : ℕ) → j < size → get_or (zero_row size r) j 0 ≡ 0
unfolding zero_row
row_zero size r j h = get_or-replicate size j 0 0 h

-- r rows are cleared, the next one's place is `at`
pub record Blanking (size rows first pitch : ℕ) (old out : List ℕ) (r at : ℕ) : Type 0 where
  pub asked : Clearable size rows first pitch (length old)
  pub spreads : Spreading (zero_row size) size pitch rows first old out r at

pub blanking_none : (size rows first pitch : ℕ) (out : List ℕ) → Clearable size rows first pitch (length out)
    → Blanking size rows first pitch out out 0 first
blanking_none size rows first pitch out a = record { asked = a; spreads = spreading_none (zero_row size) size pitch rows first out a.rows_in }

module _ (size rows first pitch : ℕ) (old out : List ℕ) (r at : ℕ) (s : Blanking size rows first pitch old out r at) where
  module _ (h : r < rows) where
    -- the next row lies in the buffer
    pub blanking_in : at + size ≤ length out
    blanking_in = spreading_fits (zero_row size) size pitch rows first old out r at s.spreads h

    -- the same as sums that fit a word
    pub blanking_fits : length old < 2 ^ 64 → Fits w64 (at + size)
    blanking_fits l = record { fits = omega (arith, blanking_in, s.spreads.long) }

    pub blanking_next_fits : length old * 1 < 2 ^ 63 → Fits w64 (at + pitch)
    blanking_next_fits l = record { fits = omega (arith, blanking_in, s.spreads.long, s.asked.pitch_in) }

    pub blanking_more : (ys : List ℕ) → ys ≡ replicate (length (mid_of at (at + size - at) out)) 0
        → Blanking size rows first pitch old (put_mid at (at + size - at) out ys) (r + 1) (at + pitch)
    blanking_more ys e =
        let n : length (mid_of at (at + size - at) out) ≡ size = mid_len at (at + size) out blanking_in ∙ omega arith in
        let y : ys ≡ zero_row size r = e ∙ ap (λ (m : ℕ). replicate m 0) n ∙ row_is size r in
        record {
          asked = s.asked;
          spreads = spreading_more (zero_row size) size pitch rows first old out r at s.spreads h ys y (ap length y ∙ row_long size r);
        }

  pub blanking_all : rows ≤ r → out ≡ spread (zero_row size) pitch 0 rows first old
  blanking_all h = spreading_all (zero_row size) size pitch rows first old out r at s.spreads h

pub ruleset blanks = (blanking_none, blanking_in, blanking_fits, blanking_next_fits, blanking_more, blanking_all, rules)
