-- The packets place by place: when the rest of a range is accepted, and which byte stands at an index of what it stands for.
use Prim.Native.Nat.{ℕ, ◌+◌, ◌-◌, ◌<◌, ◌≤◌}
use mathlib.Core.Path.{◌≡◌, sym, ap, ◌∙◌}
use mathlib.Core.List.{List, ◌++◌}
use mathlib.Core.Logic.{◌↔◌}
use native.Mathlib.Omega.{arith}
use lib.ListN.{length, drop, get_or, get_or-append, get_or-replicate}
use lib.Seq.{get_or-append-add, get_or-take, get_or-drop}
use borrow.Author.Tests.{le-leb, leb-true, eq-eqb, eqb-true}
use native.Mathlib.Nat.{add-zero}
use Rattle.checks.specs.Checks.{Holds}
use Rattle.packets.specs.Packets.{len_of, payload_of, packet_checks, piece, expand, FitsAt}
use Rattle.packets.proofs.Laws.{packets_at, packets_end, len_literal, len_run}
use Rattle.packets.proofs.Expand.{expand_at, piece_literal, piece_run, piece_length}

-- a range that is used up is accepted exactly if nothing is left
pub valid_end : (stride : ℕ) (p : List ℕ) (at left : ℕ) → length p ≤ at → Holds (packet_checks stride (drop at p) 0 left) ↔ (left ≡ 0)
unfolding Holds
valid_end stride p at left h =
    (λ x. eqb-true left 0 (rw (packets_end stride p at left h) at x).0, λ e. rw (packets_end stride p at left h) (eq-eqb left 0 e, tt))

-- else exactly if its first packet fits the range, what is left and the stride, and the rest is accepted
pub valid_at : (stride : ℕ) (p : List ℕ) (at left : ℕ) → at < length p → Holds (packet_checks stride (drop at p) 0 left) ↔ FitsAt stride p at left
unfolding Holds
valid_at stride p at left h = (
  λ x.
      let y = rw (packets_at stride p at left h) at x in
      record { payload = leb-true _ _ y.0; within = leb-true _ _ y.1.0; row = leb-true _ _ y.1.1.0; rest = y.1.1.1 },
  λ f.
      rw (packets_at stride p at left h)
      (le-leb _ _ f.payload, (le-leb _ _ f.within, (le-leb _ _ f.row, f.rest))),
)

-- the bytes of the packet at a place, and of those after it
abbrev here : List ℕ → ℕ → List ℕ
here p at = piece (get_or p at 0) (drop (at + 1) p)

abbrev later : List ℕ → ℕ → List ℕ
later p at = expand (drop (at + 1 + payload_of (get_or p at 0)) p) 0

module _ (p : List ℕ) (at : ℕ) (h : at < length p) (inside : payload_of (get_or p at 0) ≤ length (drop (at + 1) p)) where
  first : length (here p at) ≡ len_of (get_or p at 0)
  first = piece_length (get_or p at 0) (drop (at + 1) p) inside

  module _ (k : ℕ) (below : k < len_of (get_or p at 0)) where
    of_piece : get_or (expand (drop at p) 0) k 0 ≡ get_or (here p at) k 0
    of_piece =
        ap (λ (l : List ℕ). get_or l k 0) (expand_at p at h)
        ∙ get_or-append (here p at) (later p at) 0 k (omega (arith, first))

    pub byte_literal : get_or p at 0 < 128 → get_or (expand (drop at p) 0) k 0 ≡ get_or p (at + 1 + k) 0
    byte_literal l =
        of_piece
        ∙ ap (λ (x : List ℕ). get_or x k 0) (piece_literal (get_or p at 0) (drop (at + 1) p) l)
        ∙ get_or-take (get_or p at 0) (drop (at + 1) p) k 0 (omega (arith, len_literal (get_or p at 0) l))
        ∙ get_or-drop (at + 1) p k 0

    pub byte_run : 128 ≤ get_or p at 0 → get_or (expand (drop at p) 0) k 0 ≡ get_or p (at + 1) 0
    byte_run l =
        of_piece
        ∙ ap (λ (x : List ℕ). get_or x k 0) (piece_run (get_or p at 0) (drop (at + 1) p) l)
        ∙ get_or-replicate (get_or p at 0 - 126) k (get_or (drop (at + 1) p) 0 0) 0 (omega (arith, len_run (get_or p at 0) l))
        ∙ get_or-drop (at + 1) p 0 0
        ∙ rw (add-zero (at + 1))

  pub byte_later : (k : ℕ) → get_or (expand (drop at p) 0) (len_of (get_or p at 0) + k) 0 ≡ get_or (later p at) k 0
  byte_later k =
      ap (λ (l : List ℕ). get_or l (len_of (get_or p at 0) + k) 0) (expand_at p at h)
      ∙ ap (λ (m : ℕ). get_or (here p at ++ later p at) (m + k) 0) (sym first)
      ∙ get_or-append-add (here p at) (later p at) k 0
