-- Ranges of bytes and the blocks that they touch: what the loop over the map's entries comes to.
use Prim.Native.Nat.{ℕ, zero, suc, ◌+◌, ◌-◌, ◌*◌, ◌/◌, ◌<◌, ◌≤◌}
use mathlib.Core.Path.{◌≡◌, refl, sym, ap, ◌∙◌}
use mathlib.Core.Logic.{⊎_elim}
use mathlib.Core.List.{List}
use mathlib.Core.Bool.{Bool, true, false}
use native.Mathlib.Omega.{arith}
use lib.ListN.{length, get_or, get_or-eq_default}
use native.Mathlib.Nat.{eq-or-lt_of_le, add-sub_cancel_left}
use lib.Dec.{leb, eqb}
use borrow.Author.Rules.{rules}
use borrow.Author.Tests.{lt-ltb, le-leb, lt-leb, eq-eqb, ne_eqb, eqb-true, eqb-false, leb-true, leb-false, not-true, not-false}
use Rattle.lists.specs.Lists.{pick}
use Rattle.checks.specs.Numbers.{truncated, not_arrived, verdict_number, Verdict, no_refusal}
use Rattle.checks.specs.Checks.{verdict}
use Rattle.seen.specs.Seen.{Seen, seen, block_came, arrived, came_in, whole, inside, reach_of, reach_number, there}
use Rattle.seen.specs.declared.Reach.{Reach}
use Rattle.seen.specs.declared.Reach.TheVariants.{Inside, Outside, Missing}
use Rattle.std.specs.Prelude.{Err}

pub true_false : {b : Bool} → b ≡ true → b ≡ false → ⊥
true_false e q = cc

-- ranges that came whole
module _ (came : ℕ → Bool) where
  pub whole_yes : (n start : ℕ) → ((i : ℕ) → start ≤ i → i < start + n → came i ≡ true) → whole came start n ≡ true
  unfolding whole
  whole_yes zero start h = refl
  whole_yes (suc n) start h = rw (h start (omega arith) (omega arith)) (whole_yes n (suc start) (λ i a b. h i (omega arith) (omega arith)))

  whole_head : (n start : ℕ) (b : Bool) → came start ≡ b → whole came start (suc n) ≡ true → (b ≡ true) × (whole came (suc start) n ≡ true)
  unfolding whole
  whole_head n start true e w = (refl, rw e at w)
  whole_head n start false e w = absurd (true_false (rw e at w) refl)

  pub whole_at : (n start : ℕ) → whole came start n ≡ true → (i : ℕ) → start ≤ i → i < start + n → came i ≡ true
  whole_at zero start w i a b = absurd (omega arith)
  whole_at (suc n) start w i a b =
      let h = whole_head n start (came start) refl w in
      ⊎_elim (λ e. ap came (sym e) ∙ h.0) (λ l. whole_at n (suc start) h.1 i l (omega arith)) (eq-or-lt_of_le a)

  whole_no : (n start i : ℕ) → start ≤ i → i < start + n → came i ≡ false → whole came start n ≡ false
  whole_no n start i a b e = by (whole came start n) refl
    where
      by : (t : Bool) → whole came start n ≡ t → whole came start n ≡ false
      by true w = absurd (true_false (whole_at n start w i a b) e)
      by false w = w

  pub whole_part : (n start m at : ℕ) → whole came start n ≡ true → start ≤ at → at + m ≤ start + n → whole came at m ≡ true
  whole_part n start m at w a b = whole_yes m at (λ i x y. whole_at n start w i (omega arith) (omega arith))

whole_same : (f g : ℕ → Bool) (n start : ℕ) → ((i : ℕ) → start ≤ i → i < start + n → f i ≡ g i) → whole f start n ≡ whole g start n
unfolding whole
whole_same f g zero start h = refl
whole_same f g (suc n) start h = rw (h start (omega arith) (omega arith), whole_same f g n (suc start) (λ i a b. h i (omega arith) (omega arith)))

-- one block
module _ (map : List ℕ) (b : ℕ) where
  pub block_read : eqb (get_or map b 0) 1 ≡ block_came map b
  unfolding block_came
  block_read = refl

  pub block_beyond : length map ≤ b → false ≡ block_came map b
  unfolding block_came
  block_beyond h = rw (get_or-eq_default map 0 h)

-- the loop over blocks: each block from start's up to b came
pub record Blocks (map : List ℕ) (start b : ℕ) : Type 0 where
  pub from_start : start / 512 ≤ b
  pub all : (j : ℕ) → start / 512 ≤ j → j < b → block_came map j ≡ true

pub no_block : (map : List ℕ) (start : ℕ) → Blocks map start (start / 512)
no_block map start = record { from_start = omega arith; all = λ j a b. absurd (omega arith) }

pub next_block : (map : List ℕ) (start b : ℕ) {r : Bool} → Blocks map start b → r ≡ block_came map b → r ≡ true → Blocks map start (b + 1)
next_block map start b s q t = record { from_start = omega arith; all = λ j x y. by (eqb j b) refl x y }
  where
    by : {j : ℕ} (t : Bool) → eqb j b ≡ t → start / 512 ≤ j → j < b + 1 → block_came map j ≡ true
    by {j} true e x y = rw (eqb-true j b e) (sym q ∙ t)
    by {j} false e x y = s.all j x (omega (arith, eqb-false j b e))

module _ (map : List ℕ) (start end b : ℕ) (s : Blocks map start b) (some : 0 < length map) (lt : start < end) where
  pub block_lost : {r : Bool} → b < (end - 1) / 512 + 1 → r ≡ block_came map b → r ≡ false → false ≡ whole (arrived map) start (end - start)
  unfolding arrived
  block_lost {r} h q f = sym (by (leb start (512 * b)) refl)
    where
      off : (i : ℕ) → i / 512 ≡ b → arrived map i ≡ false
      off i e = simp (ne_eqb _ _ (λ (z : length map ≡ 0). omega arith), e) (sym q ∙ f)

      by : (t : Bool) → leb start (512 * b) ≡ t → whole (arrived map) start (end - start) ≡ false
      by true t = whole_no (arrived map) (end - start) start (512 * b) (leb-true start (512 * b) t) (omega arith) (off (512 * b) (omega arith))
      by false t =
          let e : start / 512 ≡ b = omega (arith, leb-false start (512 * b) t, s.from_start) in
          whole_no (arrived map) (end - start) start start (omega arith) (omega arith) (off start e)

  pub blocks_done : (end - 1) / 512 + 1 ≤ b → true ≡ whole (arrived map) start (end - start)
  unfolding arrived
  blocks_done h = sym (whole_yes (arrived map) (end - start) start came)
    where
      came : (i : ℕ) → start ≤ i → i < start + (end - start) → arrived map i ≡ true
      came i x y = simp (ne_eqb _ _ (λ (z : length map ≡ 0). omega arith), s.all (i / 512) (omega arith) (omega arith))

-- `reach_of`, test by test
module _ (file map : List ℕ) (start n : ℕ) where
  pub past_end : length file < start → Outside ≡ reach_of (seen file map) start n
  unfolding reach_of inside
  past_end a = simp (lt-leb _ _ a)

  module _ (a : start ≤ length file) where
    pub too_long : length file - start < n → Outside ≡ reach_of (seen file map) start n
    unfolding reach_of inside
    too_long b = simp (le-leb _ _ a, lt-leb _ _ b)

    module _ (b : n ≤ length file - start) where
      asked : (w : Bool) → whole (arrived map) start n ≡ w → pick w Inside Missing ≡ reach_of (seen file map) start n
      unfolding reach_of inside came_in
      asked w e =
          let q : whole (came_in (length file) map) start n ≡ w = whole_same (came_in (length file) map) (arrived map) n start in_file ∙ e in
          simp (le-leb _ _ a, le-leb _ _ b, q)
        where
          in_file : (i : ℕ) → start ≤ i → i < start + n → came_in (length file) map i ≡ arrived map i
          in_file i x y = let l : i < length file = omega arith in simp (lt-ltb i (length file) l)

      pub no_bytes : n ≡ 0 → Inside ≡ reach_of (seen file map) start n
      no_bytes z = asked true (whole_yes (arrived map) n start (λ i x y. absurd (omega arith)))

      pub no_map : length map ≡ 0 → Inside ≡ reach_of (seen file map) start n
      unfolding arrived
      no_map z = asked true (whole_yes (arrived map) n start (λ i x y. simp (eq-eqb _ _ z)))

      pub all_came : {r : Bool} → r ≡ whole (arrived map) start (start + n - start) → r ≡ true → Inside ≡ reach_of (seen file map) start n
      all_came e t = asked true (sym (rw add-sub_cancel_left at e) ∙ t)

      pub some_missing : {r : Bool} → r ≡ whole (arrived map) start (start + n - start) → r ≡ false → Missing ≡ reach_of (seen file map) start n
      some_missing e t = asked false (sym (rw add-sub_cancel_left at e) ∙ t)

-- the same as a check
tell_of : Reach → Verdict
tell_of Inside = no_refusal
tell_of Outside = Err truncated
tell_of Missing = Err not_arrived

module _ (v : Seen) (start n : ℕ) {r : Reach} (e : r ≡ reach_of v start n) where
  tells : tell_of r ≡ verdict (there v start n)
  unfolding verdict reach_of tell_of
  tells = ap tell_of e ∙ by (inside v.size start n) (whole v.came start n)
    where
      by : (b w : Bool) → tell_of (pick b (pick w Inside Missing) Outside)
          ≡ pick b (pick w no_refusal (Err not_arrived)) (Err truncated)
      by true true = refl
      by true false = refl
      by false w = refl

  -- the check refuses with the number that the answer stands for
  pub need_number : verdict_number (verdict (there v start n)) ≡ reach_number r
  unfolding tell_of
  need_number = ap verdict_number (sym tells) ∙ by r
    where
      by : (s : Reach) → verdict_number (tell_of s) ≡ reach_number s
      by Inside = refl
      by Outside = refl
      by Missing = refl

module _ (v : Seen) (start n : ℕ) where
  pub need_inside : Inside ≡ reach_of v start n → no_refusal ≡ verdict (there v start n)
  unfolding tell_of
  need_inside e = tells v start n e

  pub need_outside : Outside ≡ reach_of v start n → Err truncated ≡ verdict (there v start n)
  unfolding tell_of
  need_outside e = tells v start n e

  pub need_missing : Missing ≡ reach_of v start n → Err not_arrived ≡ verdict (there v start n)
  unfolding tell_of
  need_missing e = tells v start n e

pub ruleset blocks = (block_read, block_beyond, no_block, next_block, block_lost, blocks_done, not-true, not-false, rules)

pub ruleset reaches = (past_end, too_long, no_bytes, no_map, all_came, some_missing, need_inside, need_outside, need_missing, rules)
