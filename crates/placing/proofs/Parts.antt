-- Bytes placed in a buffer one part after the other, and what then stands there.
use Prim.Native.Nat.{ℕ, ◌+◌, ◌-◌, ◌≤◌}
use mathlib.Core.Path.{◌≡◌, refl, sym, ap, ◌∙◌}
use mathlib.Core.List.{List, ◌++◌, append_assoc}
use native.Mathlib.Omega.{arith}
use native.Mathlib.Nat.{zero-add}
use lib.ListN.{length, take, drop, length-append, length-take, length-drop}
use lib.Seq.{take_at, take_all, drop_at, drop-drop, length-take-le}
use borrow.Author.Rules.{rules}
use borrow.Rule.Slice.PartMut.{mid_of, put_mid, mid_len, same_len_mid, Post-is}
use Rattle.lists.specs.Lists.{overlay}
use Rattle.placing.specs.Placing.{BytesPlaced}

-- a lent part, filled
pub placed_part : (start n : ℕ) (ys old : List ℕ) → length ys ≡ n → start + n ≤ length old
    → BytesPlaced ys start old (start + n) (put_mid start (start + n - start) old ys)
placed_part start n ys old l h =
    let same : length ys ≡ length (mid_of start (start + n - start) old) =
    l ∙ sym (mid_len start (start + n) old h ∙ omega arith) in
    record {
      ends = ap (λ (m : ℕ). start + m) (sym l);
      within = omega (arith, same_len_mid start (start + n - start) old ys same);
      bytes = rw (l, Post-is start (start + n) old (omega arith));
    }

-- what a part was made of
pub appended : (start : ℕ) (part ys old : List ℕ) → start + length part ≤ length old → ys ≡ part
    → BytesPlaced part start old (start + length part) (put_mid start (start + length part - start) old ys)
appended start part ys old h e = rw e (placed_part start (length part) part old refl h)

module _ (new old : List ℕ) (start end : ℕ) (out : List ℕ) (p : BytesPlaced new start old end out) where
  begins_within : start ≤ length old
  begins_within =
      omega (arith, p.ends, p.within, simp (length-append, length-take, length-drop) at (ap length p.bytes))

  before : length (take start old) ≡ start
  before = length-take-le start old begins_within

  both : length (take start old ++ new) ≡ end
  both = length-append (take start old) new ∙ omega (arith, before, p.ends)

  -- up to their end, from their start on, and past their end
  front : take end out ≡ take start old ++ new
  front = rw (p.bytes, ← append_assoc (take start old) new) (take_at (take start old ++ new) _ end both)

  onward : drop start out ≡ new ++ drop (start + length new) old
  onward = rw p.bytes (drop_at (take start old) _ start before)

  past : drop end out ≡ drop (start + length new) old
  past = rw (p.bytes, ← append_assoc (take start old) new) (drop_at (take start old ++ new) _ end both)

-- two parts, one after the other, are one
pub placed_more : (a b old mid out : List ℕ) (start m end : ℕ) → BytesPlaced a start old m mid → BytesPlaced b m mid end out
    → BytesPlaced (a ++ b) start old end out
placed_more a b old mid out start m end p q =
    let rest : drop (m + length b) mid ≡ drop (start + length (a ++ b)) old =
    let n : start + length a + length b ≡ start + length (a ++ b) = omega (arith, length-append a b) in
    sym (drop-drop (length b) m mid) ∙ rw (past a old start m mid p, drop-drop, n) in
    record {
      ends = omega (arith, p.ends, q.ends, length-append a b);
      within = q.within;
      bytes = q.bytes ∙ rw (front a old start m mid p, rest, append_assoc (take start old) a, append_assoc a b);
    }

-- the later of two parts that were placed as one
pub placed_later : (a b old : List ℕ) (start end : ℕ) (out : List ℕ) → BytesPlaced (a ++ b) start old end out
    → mid_of (start + length a) (end - (start + length a)) out ≡ b
placed_later a b old start end out p =
    let n : end - (start + length a) ≡ length b = omega (arith, p.ends, length-append a b) in
    let there : drop (start + length a) out ≡ b ++ drop (start + length (a ++ b)) old =
    sym (drop-drop (length a) start out)
    ∙ rw (onward (a ++ b) old start end out p, append_assoc a b) (drop_at a _ (length a) refl) in
    rw (there, n) (take_at b _ (length b) refl)

-- from the buffer's start on
module _ (new old : List ℕ) (end : ℕ) (out : List ℕ) (p : BytesPlaced new 0 old end out) where
  pub placed_first : take end out ≡ new
  placed_first = front new old 0 end out p

  pub placed_over : out ≡ overlay new old
  unfolding overlay
  placed_over = p.bytes ∙ rw (zero-add (length new))

  -- the whole buffer
  pub placed_whole : length out ≡ length new → out ≡ new
  placed_whole l =
      let all : length out ≤ end = omega (arith, p.ends) in
      sym (take_all end out all) ∙ placed_first

pub ruleset parts = (appended, placed_over, rules)
