-- The packets of a range pass their checks exactly if they fill what is needed.
use Prim.Native.Nat.{ℕ, zero, suc, ◌-◌, ◌≤◌}
use mathlib.Core.Path.{◌≡◌, refl, sym}
use mathlib.Core.List.{List, [], ◌∷◌, ◌++◌}
use mathlib.Core.Logic.{◌↔◌}
use native.Mathlib.Omega.{arith}
use lib.ListN.{length, take, drop, length-append, take-append-drop}
use lib.Seq.{length-take-le}
use borrow.Author.Tests.{le-leb, leb-true, eqb-true}
use Rattle.checks.specs.Checks.{Holds}
use Rattle.packets.specs.Packets.{len_of, payload_of, packet_checks, Fills, ended, packet}

-- they pass, so they fill it: what is skipped is the payload of the packet before
fills : (stride : ℕ) (p : List ℕ) (skip left : ℕ) → Holds (packet_checks stride p skip left) → Fills stride (drop skip p) left
unfolding packet_checks Holds
fills stride [] zero left h = rw (eqb-true left 0 h.0) ended
fills stride [] (suc skip) left h = rw (eqb-true left 0 h.0) ended
fills stride (n ∷ rest) (suc skip) left h = fills stride rest skip left h
fills stride (n ∷ rest) zero left h =
    let k : payload_of n ≤ length rest = leb-true _ _ h.0 in
    let f = fills stride rest (payload_of n) (left - len_of n) h.1.1.1 in
    let e : take (payload_of n) rest ++ drop (payload_of n) rest ≡ rest = take-append-drop (payload_of n) rest in
    let long : length (take (payload_of n) rest) ≡ payload_of n = length-take-le (payload_of n) rest k in
    on e (packet n (take (payload_of n) rest) (drop (payload_of n) rest) left long (leb-true _ _ h.1.0) (leb-true _ _ h.1.1.0) f)
  where
    on : {x : List ℕ} → x ≡ rest → Fills stride (n ∷ x) left → Fills stride (n ∷ rest) left
    on q f = rw (sym q) f

skips : (stride : ℕ) (payload rest : List ℕ) (left : ℕ) → packet_checks stride (payload ++ rest) (length payload) left ≡ packet_checks stride rest 0 left
unfolding packet_checks
skips stride [] rest left = refl
skips stride (x ∷ payload) rest left = skips stride payload rest left

passes : (stride : ℕ) (p : List ℕ) (left : ℕ) → Fills stride p left → Holds (packet_checks stride p 0 left)
unfolding packet_checks Holds
passes stride p left ended = (refl, tt)
passes stride p left (packet control payload rest needed e within room f) =
    let inside : payload_of control ≤ length (payload ++ rest) = omega (arith, length-append payload rest, e) in
    let on = skips stride payload rest (needed - len_of control) in (
      le-leb _ _ inside,
      (le-leb _ _ within, (le-leb _ _ room, rw (← e, on) (passes stride rest (needed - len_of control) f))),
    )

pub filling : (stride : ℕ) (p : List ℕ) (needed : ℕ) → Holds (packet_checks stride p 0 needed) ↔ Fills stride p needed
filling stride p needed = (fills stride p 0 needed, passes stride p needed)
