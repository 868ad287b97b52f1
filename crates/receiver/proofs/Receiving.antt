-- The receiver's answer to one message, test by test, and what the message leaves.
use Prim.Native.Nat.{ℕ, ◌+◌, ◌-◌, ◌<◌, ◌≤◌}
use mathlib.Core.Path.{◌≡◌, refl, sym, ◌∙◌}
use mathlib.Core.Logic.{◌↔◌}
use mathlib.Core.List.{List}
use mathlib.Core.Bool.{Bool, true, false}
use native.Mathlib.Omega.{arith}
use native.Mathlib.Nat.{add-sub_cancel_left}
use lib.ListN.{length, take, drop, replicate}
use lib.Dec.{ltb, leb, eqb}
use borrow.Author.Tests.{lt-ltb, le-ltb, le-leb, eq-eqb, ne_eqb, ltb-true, leb-true, eqb-true}
use Rattle.checks.specs.Numbers.{receiver_too_small, no_such_block, block_size, Verdict, no_refusal}
use Rattle.lists.specs.Lists.{pick}
use Rattle.lists.proofs.Lesser.{lesser_min}
use Rattle.checks.specs.Checks.{verdict, Holds}
use Rattle.checks.proofs.Exact.{fine}
use Rattle.seen.proofs.Blocks.{true_false}
use Rattle.seen.specs.Seen.{blocks_in, block_start, block_length, map_length}
use Rattle.receiver.specs.declared.Receiver.{Receiver}
use Rattle.trace.specs.Trace.{Message, start, block}
use Rattle.receiver.specs.Receiver.{Reception, lent, suffices_for, start_checks, block_checks, Suffice, Admits, answer_to, accepted, on_fine, received, Answers}
use Rattle.receiver.specs.Inner.{HasPlace, Placed}
use Rattle.std.specs.Prelude.{Ok, Err, is_ok}

-- the two buffers
module _ (size file map : ℕ) where
  -- exactly if both suffice
  pub suffices_exact : (suffices_for size file map ≡ true) ↔ Suffice size file map
  suffices_exact = (by (leb size file) refl, λ s. rw (le-leb size file s.file_holds) (le-leb (map_length size) map s.map_holds))
    where
      by : (t : Bool) → leb size file ≡ t → pick t (leb (map_length size) map) false ≡ true → Suffice size file map
      by true t e = record { file_holds = leb-true size file t; map_holds = leb-true (map_length size) map e }
      by false t e = absurd (true_false e refl)

-- the checks of a block
module _ (r : Receiver) (number size file map : ℕ) where
  abbrev Told : Verdict → Type 0
  Told v = v ≡ verdict (block_checks r number size file map)

  pub before_start : r.started ≡ false → Told (Err no_such_block)
  unfolding verdict
  before_start n = rw n

  module _ (s : r.started ≡ true) {b : Bool} (eb : b ≡ suffices_for r.length file map) where
    pub too_short : b ≡ false → Told (Err receiver_too_small)
    unfolding verdict
    too_short f = rw (s, ← eb, f)

    module _ (t : b ≡ true) {n : ℕ} (en : n ≡ blocks_in r.length) where
      pub outside : n ≤ number → Told (Err no_such_block)
      unfolding verdict
      outside h = rw (s, ← eb, t, ← en, le-ltb number n h)

      module _ (h : number < n) {l : ℕ} (el : l ≡ block_length r.length number) where
        pub wrong_size : (size ≡ l → ⊥) → Told (Err block_size)
        unfolding verdict
        wrong_size d = rw (s, ← eb, t, ← en, lt-ltb number n h, ← el, ne_eqb size l d)

        pub taken : size ≡ l → Told no_refusal
        unfolding verdict
        taken e = rw (s, ← eb, t, ← en, lt-ltb number n h, ← el, eq-eqb size l e)

  -- exactly if it is one of the picture's blocks, whole
  pub block_exact : (verdict (block_checks r number size file map) ≡ no_refusal) ↔ Admits r number size file map
  unfolding Holds
  block_exact = (λ e. let h = (fine (block_checks r number size file map)).0 e in by r.started refl h.0 h.1.0 h.1.1.0, λ a. sym (all a))
    where
      by : (t : Bool) → r.started ≡ t → pick t (suffices_for r.length file map) true ≡ true
          → pick t (ltb number (blocks_in r.length)) false ≡ true → eqb size (block_length r.length number) ≡ true
          → Admits r number size file map
      by true t x y z = record {
        is_started = t;
        suffice = (suffices_exact r.length file map).0 x;
        in_picture = ltb-true number (blocks_in r.length) y;
        size_is = eqb-true size (block_length r.length number) z;
      }
      by false t x y z = absurd (true_false y refl)

      all : (a : Admits r number size file map) → Told no_refusal
      all a = taken a.is_started refl ((suffices_exact r.length file map).1 a.suffice) refl a.in_picture refl a.size_is

  -- it then has its place
  pub admitted_place : Admits r number size file map → HasPlace number size file map
  admitted_place a = record {
    bytes_in =
        omega
        (arith, a.suffice.file_holds, a.in_picture, a.size_is, lesser_min 512 (r.length - block_start number));
    mark_in = omega (arith, a.suffice.map_holds, a.in_picture);
  }

pub ruleset admissions = (before_start, too_short, outside, wrong_size, taken)

fine_if : (v : Verdict) → is_ok v ≡ true → v ≡ no_refusal
fine_if (Ok u) t = refl
fine_if (Err e) t = absurd (true_false t refl)

-- a start, from what its test says
module _ (r : Receiver) (file map : List ℕ) where
  module _ (size : ℕ) {b : Bool} (eb : b ≡ suffices_for size (length file) (length map)) where
    start_answer : (t : Bool) → b ≡ t → answer_to (start size) (lent r file map) ≡ pick t no_refusal (Err receiver_too_small)
    unfolding answer_to verdict
    start_answer t e = rw (← eb, e)

    pub start_refused : b ≡ false → Answers (start size) (lent r file map) (Err receiver_too_small) (lent r file map)
    unfolding received
    start_refused f = record { answer_is = sym (start_answer false f); leaves = rw (start_answer false f) }

    pub start_taken : {m : List ℕ} → b ≡ true → m ≡ replicate (length map) 0
        → Answers (start size) (lent r file map) no_refusal (lent (record { started = true; length = size }) file m)
    unfolding received accepted
    start_taken t e = record { answer_is = sym (start_answer true t); leaves = rw (start_answer true t, e) }

  -- a block, from what its checks say
  module _ (number : ℕ) (bytes : List ℕ) {v : Verdict} (ev : v ≡ verdict (block_checks r number (length bytes) (length file) (length map))) where
    block_answer : v ≡ answer_to (block number bytes) (lent r file map)
    unfolding answer_to
    block_answer = ev

    pub block_refused : is_ok v ≡ false → Answers (block number bytes) (lent r file map) v (lent r file map)
    unfolding received
    block_refused f = record { answer_is = block_answer; leaves = rw (← block_answer) (by v f) }
      where
        by : (w : Verdict) → is_ok w ≡ false → lent r file map ≡ on_fine w (accepted (block number bytes) (lent r file map)) (lent r file map)
        by (Ok u) f = absurd (true_false refl f)
        by (Err e) f = refl

    pub block_taken : {file' map' : List ℕ} → is_ok v ≡ true → Placed number bytes file map file' map'
        → Answers (block number bytes) (lent r file map) v (lent r file' map')
    unfolding received accepted
    block_taken t p = record { answer_is = block_answer; leaves = rw (← block_answer, fine_if v t, p.file_is, p.map_is) }

    pub block_has_place : is_ok v ≡ true → HasPlace number (length bytes) (length file) (length map)
    block_has_place t =
        let exact = block_exact r number (length bytes) (length file) (length map) in
        admitted_place r number (length bytes) (length file) (length map) (exact.0 (sym ev ∙ fine_if v t))

-- the block of a trace: its bytes are the part that is lent
pub block_part : (number size at : ℕ) (trace : List ℕ) {s s' : Reception} {v : Verdict}
    → Answers (block number (take (at + 11 + size - (at + 11)) (drop (at + 11) trace))) s v s'
    → Answers (block number (take size (drop (at + 11) trace))) s v s'
block_part number size at trace a = rw add-sub_cancel_left at a

-- which answer it is decides what a message leaves
module _ (m : Message) (s : Reception) where
  pub fine_takes : answer_to m s ≡ no_refusal → received m s ≡ accepted m s
  unfolding received
  fine_takes e = rw e

  pub refused_leaves : (answer_to m s ≡ no_refusal → ⊥) → received m s ≡ s
  unfolding received
  refused_leaves not-fine = by (answer_to m s) refl
    where
      by : (v : Verdict) → answer_to m s ≡ v → on_fine v (accepted m s) s ≡ s
      by (Ok x) e = absurd (not-fine e)
      by (Err n) e = refl

-- a start is accepted exactly if the buffers suffice, a block exactly if it is one of the picture's
module _ (s : Reception) where
  pub start_accepted : (size : ℕ) → (answer_to (start size) s ≡ no_refusal) ↔ Suffice size (length s.file) (length s.map)
  unfolding answer_to Holds
  start_accepted size =
      let both = suffices_exact size (length s.file) (length s.map) in
      let checks = start_checks size (length s.file) (length s.map) in
      (λ e. both.0 ((fine checks).0 e).0, λ h. (fine checks).1 (both.1 h, tt))

  pub block_accepted : (number : ℕ) (bytes : List ℕ)
      → (answer_to (block number bytes) s ≡ no_refusal) ↔ Admits s.receiver number (length bytes) (length s.file) (length s.map)
  unfolding answer_to
  block_accepted number bytes = block_exact s.receiver number (length bytes) (length s.file) (length s.map)
