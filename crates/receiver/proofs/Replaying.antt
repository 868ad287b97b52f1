-- A trace from message to message: what is ahead, and what the receiver makes of it.
use Prim.Native.Nat.{ℕ, suc, ◌+◌, ◌-◌, ◌^◌, ◌<◌, ◌≤◌}
use mathlib.Core.Path.{◌≡◌, refl, sym, ap, ◌∙◌}
use mathlib.Core.List.{List}
use native.Mathlib.Omega.{arith}
use lib.ListN.{length, take, drop, length-drop}
use lib.Seq.{drop-drop, take_all}
use mir.Syntax.{w64}
use mir.Val.{Fits}
use borrow.Author.Rules.{rules}
use Rattle.checks.specs.Numbers.{truncated, invalid, Verdict, no_refusal}
use Rattle.receiver.specs.declared.Receiver.{Receiver}
use Rattle.trace.specs.declared.Next.{Next}
use Rattle.trace.specs.declared.Next.TheVariants.{Over, Cut, Foreign, Start, Block}
use Rattle.trace.specs.Trace.{start, block, Trace, next_of, ends_with, begins_with, length_of, trace_of}
use Rattle.trace.proofs.Traces.{begins, start_there, block_there}
use Rattle.receiver.specs.Receiver.{lent, received_all, Answers, Replays}
use Rattle.std.specs.Prelude.{Err}

-- the replay has come to a place: what is ahead, received as things stand now, is what the whole trace leaves
pub record Replaying (trace file₀ map₀ : List ℕ) (r₀ : Receiver) (file map : List ℕ) (at : ℕ) (r : Receiver) : Type 0 where
  pub upto : at ≤ length trace
  pub long_file : length file ≡ length file₀
  pub long_map : length map ≡ length map₀
  pub leaves : received_all (trace_of (drop at trace)).messages (lent r file map) ≡ received_all (trace_of trace).messages (lent r₀ file₀ map₀)
  pub ends : (trace_of (drop at trace)).ending ≡ (trace_of trace).ending

pub replaying_none : (trace file map : List ℕ) (r : Receiver) → Replaying trace file map r file map 0 r
replaying_none trace file map r = record { upto = omega arith; long_file = refl; long_map = refl; leaves = refl; ends = refl }

module _ (trace file₀ map₀ : List ℕ) (r₀ : Receiver) (file map : List ℕ) (at : ℕ) (r : Receiver) (s : Replaying trace file₀ map₀ r₀ file map at r)
    {n : Next} (lent-part : n ≡ next_of (take (length trace - at) (drop at trace))) where
  en : n ≡ next_of (drop at trace)
  en = lent-part ∙ ap next_of (take_all (length trace - at) (drop at trace) (simp length-drop (omega arith)))

  ahead : (m : Next) → n ≡ m → trace_of (drop at trace) ≡ begins_with m (drop 1 (drop at trace)) (trace_of (drop (at + suc (length_of m)) trace))
  ahead m e = begins (drop at trace) en m e ∙ ap (λ (x : List ℕ). begins_with m (drop 1 (drop at trace)) (trace_of x)) (drop-drop (suc (length_of m)) at trace)

  pub start_in_lem : (size : ℕ) → n ≡ Start size → at + 9 ≤ length trace
  start_in_lem size e = omega (arith, s.upto, simp length-drop at (start_there (drop at trace) en size e))

  pub block_in_lem : (number size : ℕ) → n ≡ Block number size → at + 11 + size ≤ length trace
  block_in_lem number size e = omega (arith, s.upto, simp length-drop at (block_there (drop at trace) en number size e))

  -- the next message begins further on, at a place that is a number of 64 bits
  pub start_less : (size : ℕ) → n ≡ Start size → length trace - (at + 9) < length trace - at
  start_less size e = omega (arith, start_in_lem size e)

  pub block_less : (number size : ℕ) → n ≡ Block number size → length trace - (at + 11 + size) < length trace - at
  block_less number size e = omega (arith, block_in_lem number size e)

  pub block_end : (number size : ℕ) → n ≡ Block number size → length trace < 2 ^ 64 → Fits w64 (at + 11 + size)
  block_end number size e h = record { fits = omega (arith, block_in_lem number size e) }

  module _ (file' map' : List ℕ) (r' : Receiver) {v : Verdict} (lf : length file' ≡ length file) (lm : length map' ≡ length map) where
    pub replaying_start : (size : ℕ) → n ≡ Start size → Answers (start size) (lent r file map) v (lent r' file' map')
        → Replaying trace file₀ map₀ r₀ file' map' (at + 9) r'
    unfolding received_all
    replaying_start size e a =
        let t = ahead (Start size) e in
        record {
          upto = start_in_lem size e;
          long_file = lf ∙ s.long_file;
          long_map = lm ∙ s.long_map;
          leaves = rw a.leaves (ap (λ (x : Trace). received_all x.messages (lent r file map)) (sym t) ∙ s.leaves);
          ends = ap (λ (x : Trace). x.ending) (sym t) ∙ s.ends;
        }

    pub replaying_block : (number size : ℕ) → n ≡ Block number size
        → Answers (block number (take size (drop (at + 11) trace))) (lent r file map) v (lent r' file' map')
        → Replaying trace file₀ map₀ r₀ file' map' (at + 11 + size) r'
    unfolding received_all
    replaying_block number size e a =
        let t = ahead (Block number size) e in
        let next : at + suc (10 + size) ≡ at + 11 + size = omega arith in
        let bytes : drop 10 (drop 1 (drop at trace)) ≡ drop (at + 11) trace = drop-drop 10 1 (drop at trace) ∙ drop-drop 11 at trace in
        record {
          upto = block_in_lem number size e;
          long_file = lf ∙ s.long_file;
          long_map = lm ∙ s.long_map;
          leaves =
              rw (a.leaves, ← next, ← bytes) (ap (λ (x : Trace). received_all x.messages (lent r file map)) (sym t) ∙ s.leaves);
          ends = rw (← next) (ap (λ (x : Trace). x.ending) (sym t) ∙ s.ends);
        }

  -- where it stops
  stops : (m : Next) (v : Verdict) → n ≡ m → begins_with m (drop 1 (drop at trace)) (trace_of (drop (at + suc (length_of m)) trace)) ≡ ends_with v
      → Replays trace (lent r₀ file₀ map₀) v (lent r file map)
  unfolding received_all
  stops m v e q =
      let t = ahead m e ∙ q in
      record {
        ending_is = ap (λ (x : Trace). x.ending) (sym t) ∙ s.ends;
        leaves = ap (λ (x : Trace). received_all x.messages (lent r file map)) (sym t) ∙ s.leaves;
      }

  pub replayed_over : n ≡ Over → Replays trace (lent r₀ file₀ map₀) no_refusal (lent r file map)
  replayed_over e = stops Over no_refusal e refl

  pub replayed_cut : n ≡ Cut → Replays trace (lent r₀ file₀ map₀) (Err truncated) (lent r file map)
  replayed_cut e = stops Cut (Err truncated) e refl

  pub replayed_foreign : n ≡ Foreign → Replays trace (lent r₀ file₀ map₀) (Err invalid) (lent r file map)
  replayed_foreign e = stops Foreign (Err invalid) e refl

pub ruleset advances = (start_in_lem, block_in_lem, start_less, block_less, block_end)

pub ruleset ends = (replayed_over, replayed_cut, replayed_foreign)

pub ruleset replays = (advances, replaying_none, replaying_start, replaying_block, ends, rules)
