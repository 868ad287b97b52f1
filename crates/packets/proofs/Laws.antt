-- Laws of the packets at a place of a range, and of what is left to the stride's boundary.
use Prim.Native.Nat.{ℕ, zero, suc, ◌+◌, ◌-◌, ◌*◌, ◌/◌, ◌%◌, ◌<◌, ◌≤◌}
use mathlib.Core.Path.{◌≡◌, refl, sym, ap, ◌∙◌}
use mathlib.Core.List.{List, [], ◌∷◌}
use mathlib.Core.Logic.{◌⊎◌, ⊎_elim}
use mathlib.Core.Bool.{Bool, true, false}
use native.Mathlib.Omega.{arith}
use native.Mathlib.Nat.{add-sub_cancel_left, mod-lt, div-add-mod', mul-add-mod_self_right, mod-eq_of_lt, suc-mul, zero-mul}
use native.Mathlib.Numerals.{add-one}
use lib.ListN.{length, take, drop, get_or, length-drop, drop_of_length-le}
use lib.Seq.{drop-cons, drop-drop, take-length}
use lib.Dec.{leb, eqb}
use borrow.Author.Rules.{rules}
use borrow.Author.Tests.{lt-ltb, le-ltb, eq-eqb, ne_eqb, eqb-true, eqb-false}
use Rattle.lists.specs.Lists.{pick}
use Rattle.checks.specs.Numbers.{truncated, invalid, Verdict, no_refusal}
use Rattle.checks.specs.Checks.{Check, must, verdict, cost}
use Rattle.checks.proofs.Rules.{verdicts}
use Rattle.packets.specs.Packets.{len_of, payload_of, room_of, packet_checks, range_checks}
use Rattle.packets.specs.Inner.{Says}
use Rattle.std.specs.Prelude.{Err}

-- a literal and a run
module _ (n : ℕ) where
  pub len_literal : n < 128 → len_of n ≡ n
  unfolding len_of
  len_literal h = simp (lt-ltb _ _ h)

  pub len_run : 128 ≤ n → len_of n ≡ n - 126
  unfolding len_of
  len_run h = simp (le-ltb _ _ h)

  pub payload_literal : n < 128 → payload_of n ≡ n
  unfolding payload_of
  payload_literal h = simp (lt-ltb _ _ h)

  pub payload_run : 128 ≤ n → payload_of n ≡ 1
  unfolding payload_of
  payload_run h = simp (le-ltb _ _ h)

-- what a control says
pub says_literal : {byte n : ℕ} → n ≡ byte → n < 128 → Says byte n n n
says_literal {byte} {n} e h =
    record {
      control_is = e;
      len_is = sym (len_literal n h);
      payload_is = sym (payload_literal n h);
      len_small = omega arith;
      payload_small = omega arith;
    }

pub says_run : {byte n : ℕ} → n ≡ byte → 128 ≤ n → byte < 256 → Says byte n (n - 126) 1
says_run {byte} {n} e h b =
    record {
      control_is = e;
      len_is = sym (len_run n h);
      payload_is = sym (payload_run n h);
      len_small = omega arith;
      payload_small = omega arith;
    }

-- what is left to the boundary
module _ (stride left : ℕ) where
  pub room_whole : left % stride ≡ 0 → stride ≡ room_of stride left
  unfolding room_of
  room_whole e = simp (eq-eqb _ _ e)

  pub room_part : (left % stride ≡ 0 → ⊥) → left % stride ≡ room_of stride left
  unfolding room_of
  room_part e = simp (ne_eqb _ _ e)

room_at : (stride q r : ℕ) → r < stride → room_of stride (q * stride + r) ≡ pick (eqb r 0) stride r
unfolding room_of
room_at stride q r h = rw (mul-add-mod_self_right q stride r, mod-eq_of_lt h)

-- after len bytes of a whole number of strides
room_from_whole : (stride q len : ℕ) → 0 < len → len ≤ stride → len ≤ q * stride
    → room_of stride (q * stride - len) ≡ pick (eqb (stride - len) 0) stride (stride - len)
room_from_whole stride zero len a b h = absurd (omega (arith, zero-mul stride))
room_from_whole stride (suc q) len a b h =
    let e : suc q * stride - len ≡ q * stride + (stride - len) = omega (arith, suc-mul q stride) in
    rw e (room_at stride q (stride - len) (omega arith))

-- the boundary moves only when it is met
module _ (stride left room len : ℕ) (some : 0 < stride) (is : room ≡ room_of stride left) (h : len ≤ room) (k : len ≤ left) where
  room_moves : room_of stride (left - len) ≡ pick (eqb (room - len) 0) stride (room - len)
  room_moves = by (eqb len 0) refl (eqb (left % stride) 0) refl
    where
      split : left / stride * stride + left % stride ≡ left
      split = div-add-mod' left stride

      low : left % stride < stride
      low = mod-lt left some

      by : (t : Bool) → eqb len 0 ≡ t → (u : Bool) → eqb (left % stride) 0 ≡ u → room_of stride (left - len) ≡ pick (eqb (room - len) 0) stride (room - len)
      by true t true u =
          let r : room ≡ stride = is ∙ sym (room_whole stride left (eqb-true _ _ u)) in
          let z : left - len ≡ left = omega (arith, eqb-true len 0 t) in
          let y : room - len ≡ room = omega (arith, eqb-true len 0 t) in
          let n : eqb room 0 ≡ false = ne_eqb _ _ (λ (q : room ≡ 0). omega arith) in
          rw (z, y, n) (sym is)
      by true t false u =
          let r : room ≡ left % stride = is ∙ sym (room_part stride left (eqb-false _ _ u)) in
          let z : left - len ≡ left = omega (arith, eqb-true len 0 t) in
          let y : room - len ≡ room = omega (arith, eqb-true len 0 t) in
          let n : eqb room 0 ≡ false = ne_eqb _ _ (λ (q : room ≡ 0). eqb-false _ _ u (sym r ∙ q)) in
          rw (z, y, n) (sym is)
      by false t true u =
          let r : room ≡ stride = is ∙ sym (room_whole stride left (eqb-true _ _ u)) in
          let z : left ≡ left / stride * stride = omega (arith, eqb-true (left % stride) 0 u, split) in
          let w : len ≡ 0 → ⊥ = eqb-false len 0 t in
          let l : 0 < len = omega arith in
          rw r (ap (λ (x : ℕ). room_of stride (x - len)) z ∙ room_from_whole stride (left / stride) len l (omega arith) (omega arith))
      by false t false u =
          let r : room ≡ left % stride = is ∙ sym (room_part stride left (eqb-false _ _ u)) in
          let z : left - len ≡ left / stride * stride + (room - len) = omega (arith, split) in
          ap (room_of stride) z ∙ room_at stride (left / stride) (room - len) (omega (arith, low))

  pub room_met : room - len ≡ 0 → stride ≡ room_of stride (left - len)
  room_met z = sym (room_moves ∙ simp (eq-eqb _ _ z))

  pub room_left : (room - len ≡ 0 → ⊥) → room - len ≡ room_of stride (left - len)
  room_left z = sym (room_moves ∙ simp (ne_eqb _ _ z))

-- packets charge nothing
pub packets_free : (stride : ℕ) (p : List ℕ) (skip left : ℕ) → cost (packet_checks stride p skip left) ≡ 0
unfolding packet_checks cost
packets_free stride [] skip left = refl
packets_free stride (n ∷ rest) (suc skip) left = packets_free stride rest skip left
packets_free stride (n ∷ rest) zero left = packets_free stride rest (payload_of n) (left - len_of n)

-- to skip bytes is to drop them
skip_drop : (stride : ℕ) (xs : List ℕ) (k left : ℕ) → packet_checks stride xs k left ≡ packet_checks stride (drop k xs) 0 left
unfolding packet_checks
skip_drop stride [] zero left = refl
skip_drop stride [] (suc k) left = refl
skip_drop stride (x ∷ xs) zero left = refl
skip_drop stride (x ∷ xs) (suc k) left = skip_drop stride xs k left

-- the checks of a packet of control n with rest bytes after it
abbrev pub packet_then : ℕ → ℕ → ℕ → ℕ → List Check → List Check
packet_then stride n rest left k =
    must (leb (payload_of n) rest) truncated ∷ must (leb (len_of n) left) invalid ∷ must (leb (len_of n) (room_of stride left)) invalid ∷ k

pub packets_at : (stride : ℕ) (p : List ℕ) (at left : ℕ) → at < length p
    → packet_checks stride (drop at p) 0 left
    ≡ packet_then stride (get_or p at 0) (length p - at - 1) left
    (packet_checks stride (drop (at + 1 + payload_of (get_or p at 0)) p) 0 (left - len_of (get_or p at 0)))
unfolding packet_checks
packets_at stride p at left h =
    let rest : length (drop (suc at) p) ≡ length p - at - 1 = simp length-drop (omega arith) in
    rw (drop-cons p at 0 h, rest, skip_drop stride (drop (suc at) p), drop-drop _ (suc at) p, ← add-one at)

pub packets_end : (stride : ℕ) (p : List ℕ) (at left : ℕ) → length p ≤ at → packet_checks stride (drop at p) 0 left ≡ must (eqb left 0) truncated ∷ []
unfolding packet_checks
packets_end stride p at left h = rw (drop_of_length-le p h)

-- The loop of the validation: what is known at its head of the rest of the range, and what each test says there.
pub record Scanned (stride : ℕ) (p : List ℕ) (needed : ℕ) (rest : List ℕ) (left room : ℕ) : Type 0 where
  pub room_is : room ≡ room_of stride left
  pub same : verdict (packet_checks stride p 0 needed) ≡ verdict (packet_checks stride rest 0 left)

pub scanned_none : (stride : ℕ) (p : List ℕ) (needed room : ℕ) → room ≡ room_of stride needed → Scanned stride p needed p needed room
scanned_none stride p needed room e = record { room_is = e; same = refl }

module _ {stride : ℕ} {p : List ℕ} {needed : ℕ} {rest : List ℕ} {byte : ℕ} {after : List ℕ} {left room control len payload : ℕ}
    (s : Scanned stride p needed rest left room) (e : rest ≡ byte ∷ after) (c : Says byte control len payload) where
  here : verdict (packet_checks stride p 0 needed)
      ≡ verdict (must (leb payload (length after)) truncated ∷ must (leb len left) invalid ∷ must (leb len room) invalid
      ∷ packet_checks stride (drop payload after) 0 (left - len))
  unfolding packet_checks
  here =
      let l : len_of byte ≡ len = sym (c.len_is ∙ ap len_of c.control_is) in
      let y : payload_of byte ≡ payload = sym (c.payload_is ∙ ap payload_of c.control_is) in
      s.same ∙ rw (e, l, y, skip_drop stride after payload, ← s.room_is)

  pub short : length after < payload → Err truncated ≡ verdict (packet_checks stride p 0 needed)
  short t = (search verdicts) ∙ sym here

  module _ (fits : payload ≤ length after) where
    pub unfit : (left < len) ⊎ ((len ≤ left) × (room < len)) → Err invalid ≡ verdict (packet_checks stride p 0 needed)
    unfit t = ⊎_elim (λ (a : left < len). (search verdicts) ∙ sym here) (λ (b : (len ≤ left) × (room < len)). by b.0 b.1) t
      where
        by : len ≤ left → room < len → Err invalid ≡ verdict (packet_checks stride p 0 needed)
        by a b = (search verdicts) ∙ sym here

    pub scanned_more : len ≤ left → len ≤ room → (next : ℕ) → next ≡ room_of stride (left - len)
        → Scanned stride p needed (take (length after - payload) (drop payload after)) (left - len) next
    scanned_more a b next n =
        let all : take (length after - payload) (drop payload after) ≡ drop payload after =
        ap (λ (m : ℕ). take m (drop payload after)) (sym (length-drop payload after)) ∙ take-length (drop payload after) in
        rw all (record { room_is = n; same = here ∙ sym (search verdicts) })

-- nothing is left of the range
module _ {stride : ℕ} {p : List ℕ} {needed : ℕ} {rest : List ℕ} {left room : ℕ} (s : Scanned stride p needed rest left room) (e : length rest ≡ 0) where
  at_end : verdict (packet_checks stride p 0 needed) ≡ verdict (must (eqb left 0) truncated ∷ [])
  at_end = s.same ∙ ap verdict (packets_end stride rest 0 left (omega arith))

  pub filled : left ≡ 0 → no_refusal ≡ verdict (packet_checks stride p 0 needed)
  filled t = (search verdicts) ∙ sym at_end

  pub wanting : (left ≡ 0 → ⊥) → Err truncated ≡ verdict (packet_checks stride p 0 needed)
  wanting t = (search verdicts) ∙ sym at_end

-- the packets of a range that is inside the file
pub range_packets : {r : Verdict} (s : List ℕ) (start count stride needed : ℕ) → (stride ≡ 0 → ⊥) → start ≤ length s → count ≤ length s - start
    → r ≡ verdict (packet_checks stride (take (start + count - start) (drop start s)) 0 needed) → r ≡ verdict (range_checks s start count stride needed)
unfolding range_checks
range_packets s start count stride needed z a b e =
    let q = rw (add-sub_cancel_left) at e in
    search verdicts

pub ruleset rooms = (room_whole, room_part, room_met, room_left, rules)

pub ruleset ranges = (range_packets, verdicts)
