-- Messages taken one after the other, with the receiver in a record that counts its answers.
use Prim.Native.Nat.{ℕ, ◌+◌, ◌-◌, ◌<◌}
use mathlib.Core.Path.{◌≡◌, sym, ◌∙◌}
use mathlib.Core.List.{List, [], ◌∷◌}
use native.Mathlib.Omega.{arith}
use lib.ListN.{length, take, drop, length-drop}
use lib.Seq.{length-take-le}
use Rattle.receiver.specs.declared.Receiver.{Receiver}
use Rattle.trace.specs.declared.Next.{Next}
use Rattle.trace.specs.declared.Next.TheVariants.{Foreign, Start, Block}
use Rattle.trace.specs.Trace.{start, block, next_of}
use Rattle.receiver.specs.Receiver.{lent, Answers}
use Rattle.receiver.proofs.Replaying.{Replaying, replays, replaying_start, replaying_block}
use Rattle.checks.specs.Numbers.{Verdict}

-- where a byte begins no message there is one
foreign_there : (t : List ℕ) → next_of t ≡ Foreign → 0 < length t
unfolding next_of
foreign_there [] e = let z : ◌≡◌ {A = ℕ} 0 1 = cc in omega arith
foreign_there (b ∷ t) e = omega arith

module _ (trace file₀ map₀ : List ℕ) (r₀ : Receiver) (file map : List ℕ) (at : ℕ) (r : Receiver) (s : Replaying trace file₀ map₀ r₀ file map at r)
    {n : Next} (lent-part : n ≡ next_of (take (length trace - at) (drop at trace))) where
  pub foreign_in : n ≡ Foreign → at < length trace
  foreign_in e =
      let there = foreign_there (take (length trace - at) (drop at trace)) (sym lent-part ∙ e) in
      let long : length (take (length trace - at) (drop at trace)) ≡ length trace - at = length-take-le _ _ (simp length-drop (omega arith)) in
      omega arith

  module _ (file' map' : List ℕ) (received after : Receiver) {v : Verdict} (lf : length file' ≡ length file) (lm : length map' ≡ length map)
      (same : after ≡ received) where
    pub counted_start : (size : ℕ) → n ≡ Start size → Answers (start size) (lent r file map) v (lent received file' map')
        → Replaying trace file₀ map₀ r₀ file' map' (at + 9) after
    counted_start size e a =
        rw same (replaying_start trace file₀ map₀ r₀ file map at r s lent-part file' map' received lf lm size e a)

    pub counted_block : (number size : ℕ) → n ≡ Block number size
        → Answers (block number (take (at + 11 + size - (at + 11)) (drop (at + 11) trace))) (lent r file map) v (lent received file' map')
        → Replaying trace file₀ map₀ r₀ file' map' (at + 11 + size) after
    counted_block number size e a =
        let long : at + 11 + size - (at + 11) ≡ size = omega arith in
        rw same (replaying_block trace file₀ map₀ r₀ file map at r s lent-part file' map' received lf lm number size e (rw long at a))

pub ruleset taking = (foreign_in, counted_start, counted_block, replays)
