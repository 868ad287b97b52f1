-- What packets stand for, at a place of a range; accepted ones stand for just as many bytes as are needed.
use Prim.Native.Nat.{ℕ, zero, suc, ◌+◌, ◌-◌, ◌<◌, ◌≤◌}
use mathlib.Core.Path.{◌≡◌, refl, sym, ap, ◌∙◌}
use mathlib.Core.List.{List, [], ◌∷◌, ◌++◌}
use mathlib.Core.Bool.{Bool, true, false}
use native.Mathlib.Omega.{arith}
use native.Mathlib.Numerals.{add-one}
use lib.ListN.{length, take, drop, get_or, replicate, length-append, length-replicate, drop_of_length-le}
use lib.Seq.{drop-cons, drop-drop, length-take-le}
use lib.Dec.{ltb}
use borrow.Author.Tests.{lt-ltb, le-ltb, ltb-true, ltb-false, leb-true, eqb-true}
use Rattle.checks.specs.Checks.{Holds}
use Rattle.packets.specs.Packets.{len_of, payload_of, packet_checks, piece, expand}
use Rattle.packets.specs.Inner.{Accepted}
use Rattle.packets.proofs.Laws.{len_literal, len_run, payload_literal, packets_at}

expand_skip : (xs : List ℕ) (k : ℕ) → expand xs k ≡ expand (drop k xs) 0
unfolding expand
expand_skip [] zero = refl
expand_skip [] (suc k) = refl
expand_skip (x ∷ xs) zero = refl
expand_skip (x ∷ xs) (suc k) = expand_skip xs k

pub expand_at : (p : List ℕ) (at : ℕ) → at < length p
    → expand (drop at p) 0 ≡ piece (get_or p at 0) (drop (at + 1) p) ++ expand (drop (at + 1 + payload_of (get_or p at 0)) p) 0
unfolding expand
expand_at p at h = rw (drop-cons p at 0 h, expand_skip (drop (suc at) p), drop-drop _ (suc at) p, ← add-one at)

pub expand_end : (p : List ℕ) (at : ℕ) → length p ≤ at → expand (drop at p) 0 ≡ []
unfolding expand
expand_end p at h = rw (drop_of_length-le p h)

-- a literal and a run
pub piece_literal : (n : ℕ) (rest : List ℕ) → n < 128 → piece n rest ≡ take n rest
unfolding piece
piece_literal n rest h = simp (lt-ltb _ _ h)

pub piece_run : (n : ℕ) (rest : List ℕ) → 128 ≤ n → piece n rest ≡ replicate (n - 126) (get_or rest 0 0)
unfolding piece
piece_run n rest h = simp (le-ltb _ _ h)

pub piece_length : (n : ℕ) (rest : List ℕ) → payload_of n ≤ length rest → length (piece n rest) ≡ len_of n
piece_length n rest h = by (ltb n 128) refl
  where
    by : (t : Bool) → ltb n 128 ≡ t → length (piece n rest) ≡ len_of n
    by true t =
        let l = ltb-true n 128 t in
        ap length (piece_literal n rest l) ∙ length-take-le n rest (omega (arith, payload_literal n l)) ∙ sym (len_literal n l)
    by false t =
        let l = ltb-false n 128 t in
        ap length (piece_run n rest l) ∙ length-replicate (n - 126) (get_or rest 0 0) ∙ sym (len_run n l)

expanded : (stride : ℕ) (xs : List ℕ) (skip left : ℕ) → Holds (packet_checks stride xs skip left) → length (expand xs skip) ≡ left
unfolding packet_checks expand Holds
expanded stride [] skip left h = sym (eqb-true left 0 h.0)
expanded stride (n ∷ rest) (suc skip) left h = expanded stride rest skip left h
expanded stride (n ∷ rest) zero left (a, (b, (c, d))) =
    let one = piece_length n rest (leb-true (payload_of n) (length rest) a) in
    let others = expanded stride rest (payload_of n) (left - len_of n) d in
    length-append (piece n rest) _ ∙ omega (arith, one, leb-true (len_of n) left b, others)

pub expand_length : (p : List ℕ) (needed : ℕ) → Accepted p needed → length (expand p 0) ≡ needed
expand_length p needed a = expanded a.stride p 0 needed a.holds

-- the packet at a place of accepted ones
pub record Good (p : List ℕ) (at left : ℕ) : Type 0 where
  pub inside : at + 1 + payload_of (get_or p at 0) ≤ length p
  pub within : len_of (get_or p at 0) ≤ left
  pub rest : Accepted (drop (at + 1 + payload_of (get_or p at 0)) p) (left - len_of (get_or p at 0))

pub good : (p : List ℕ) (at left : ℕ) → at < length p → Accepted (drop at p) left → Good p at left
unfolding Holds
good p at left h a =
    let n = get_or p at 0 in
    let x = rw (packets_at a.stride p at left h) at a.holds in
    let i : payload_of n ≤ length p - at - 1 = leb-true _ _ x.0 in
    record { inside = omega arith; within = leb-true _ _ x.1.0; rest = record { stride = a.stride; holds = x.1.1.1 } }
