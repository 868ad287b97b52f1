-- The segments of a picture: their checks hold exactly if each of them is fine, and give no numbers but 1 to 7 and, for bytes that did
-- not come, 8.
use Prim.Native.Nat.{ℕ, zero, suc, ◌+◌, ◌-◌, ◌<◌, ◌≤◌}
use mathlib.Core.Path.{◌≡◌}
use mathlib.Core.Logic.Iff
use mathlib.Core.Logic.{◌↔◌, ⊎_elim}
use mathlib.Core.List.{List, [], ◌∷◌, ◌++◌}
use mathlib.Core.Bool.{true}
use native.Mathlib.Omega.{arith}
use native.Mathlib.Nat.{eq-or-lt_of_le}
use borrow.Author.Tests.{leb-true, le-leb}
use Rattle.checks.specs.Numbers.{number_of, truncated, invalid, limit, budget, not_arrived}
use Rattle.checks.specs.Checks.{pay, Holds, Never}
use Rattle.checks.proofs.Exact.{both, never_both}
use Rattle.checks.specs.Sizes.{most64}
use Rattle.seen.specs.Seen.{Seen, whole, there, There}
use Rattle.seen.proofs.Words.{there_holds, holds_there}
use Rattle.entries.specs.Values.{size_of, place_of}
use Rattle.picture.specs.declared.Format.{Format}
use Rattle.front.proofs.Arrival.{Unusual, not_given, never_there}
use Rattle.packets.specs.Packets.{len_of, payload_of, packet_checks, Fills}
use Rattle.packets.proofs.Filling.{filling}
use Rattle.geometry.specs.Costs.{scratch_for}
use Rattle.picture.specs.Picture.{area_of, needed_of}
use Rattle.plan.specs.Plan.{offset_of, count_of, place_checks, fee_of, area_checks, plan_checks}
use Rattle.logluv_segment.specs.Segment.{stored, stored_checks, segment_checks, each_segment}
use Rattle.promises.specs.Strict.{Good, SegmentFine}

there_fine : (v : Seen) (at n : ℕ) → Holds (there v at n) ↔ There v at n
there_fine v at n = (holds_there v at n, there_holds v at n)

module _ (v : Seen) (f : Format) where
  -- where the offset and the count of a segment lie, and their lengths
  abbrev offset_place : ℕ → ℕ
  offset_place k = place_of v f.big f.offsets k

  abbrev offset_size : ℕ
  offset_size = size_of v f.big f.offsets

  abbrev count_place : ℕ → ℕ
  count_place k = place_of v f.big f.counts k

  abbrev count_size : ℕ
  count_size = size_of v f.big f.counts

  pub place_fine : (k : ℕ) → Holds (place_checks v f k)
      ↔ (There v (offset_place k) offset_size × (There v (count_place k) count_size × There v (offset_of v f k) (count_of v f k)))
  unfolding place_checks
  place_fine k =
      both (there v (offset_place k) offset_size) (there v (count_place k) count_size ++ there v (offset_of v f k) (count_of v f k))
      (there_fine v (offset_place k) offset_size)
      (both (there v (count_place k) count_size) (there v (offset_of v f k) (count_of v f k)) (there_fine v (count_place k) count_size)
      (there_fine v (offset_of v f k) (count_of v f k)))

  -- its packets pass their checks exactly if they fill its planes
  pub packets_fill : (k : ℕ) → Holds (stored_checks v f k) ↔ Fills f.block_width (stored v f k) (needed_of f k)
  unfolding stored_checks
  packets_fill k = filling f.block_width (stored v f k) (needed_of f k)

  -- a segment is good exactly if the checks of its place and of its packets hold
  pub good_fine : (k : ℕ) → (Holds (place_checks v f k) × Holds (stored_checks v f k)) ↔ Good v f k
  good_fine k = (
    λ p. let t = (place_fine k).0 p.0 in record { offset_there = t.0; count_there = t.1.0; range_is_there = t.1.1; packets = (packets_fill k).0 p.1 },
    λ g. ((place_fine k).1 (g.offset_there, (g.count_there, g.range_is_there)), (packets_fill k).1 g.packets),
  )

module _ (v : Seen) (f : Format) (maxOutput : ℕ) where
  module _ (k : ℕ) where
    room_fine : Holds (area_checks v f maxOutput k) ↔ ((scratch_for f.mono (area_of f k) ≤ maxOutput) × (fee_of v f k ≤ most64))
    unfolding Holds area_checks
    room_fine = (
      λ h. (leb-true (scratch_for f.mono (area_of f k)) maxOutput h.0, leb-true (fee_of v f k) most64 h.1.0),
      λ p. (le-leb (scratch_for f.mono (area_of f k)) maxOutput p.0, (le-leb (fee_of v f k) most64 p.1, tt)),
    )

    pub segment_fine : Holds (segment_checks v f maxOutput k) ↔ SegmentFine v f maxOutput k
    unfolding Holds segment_checks plan_checks
    segment_fine =
        Iff.trans
        (both (plan_checks v f maxOutput k) (pay (fee_of v f k) ∷ stored_checks v f k)
        (both (place_checks v f k) (area_checks v f maxOutput k) (λ h. h, λ h. h) room_fine) (λ h. h, λ h. h)) (
          λ p. record { good = (good_fine v f k).0 (p.0.0, p.1); room_allowed = p.0.1.0; fee_fits = p.0.1.1 },
          λ s. let g = (good_fine v f k).1 s.good in ((g.0, (s.room_allowed, s.fee_fits)), g.1),
        )

  -- n segments from k on
  abbrev Each : ℕ → ℕ → Type 0
  Each n k = (j : ℕ) → k ≤ j → j < k + n → SegmentFine v f maxOutput j

  each_fine : (n k : ℕ) → Holds (each_segment v f maxOutput k n) ↔ Each n k
  unfolding Holds each_segment
  each_fine zero k = (λ h j a b. absurd (omega arith), λ g. tt)
  each_fine (suc n) k = Iff.trans (both (segment_checks v f maxOutput k) (each_segment v f maxOutput (suc k) n) (segment_fine k) (each_fine n (suc k))) (
    λ p j a b. ⊎_elim (λ (z : k ≡ j). rw z at p.0) (λ (l : k < j). p.1 j l (omega arith)) (eq-or-lt_of_le a),
    λ g. (g k (omega arith) (omega arith), λ j a b. g j (omega arith) (omega arith)),
  )

  -- all n of a picture
  pub segments_fine : (n : ℕ) → Holds (each_segment v f maxOutput 0 n) ↔ ((k : ℕ) → k < n → SegmentFine v f maxOutput k)
  segments_fine n = Iff.trans (each_fine n 0) (λ g k l. g k (omega arith) (omega arith), λ g k a b. g k (omega arith))

-- a number that is none of 1 to 7 is given by no segment, and 8 only for bytes that did not come
module _ (number : ℕ) (unusual : Unusual number) where
  never_packets : (stride : ℕ) (p : List ℕ) (skip left : ℕ) → Never number (packet_checks stride p skip left)
  unfolding Never packet_checks
  never_packets stride [] skip left = (not_given number unusual truncated (omega arith) (omega arith), tt)
  never_packets stride (n ∷ rest) (suc skip) left = never_packets stride rest skip left
  never_packets stride (n ∷ rest) zero left = (
    not_given number unusual truncated (omega arith) (omega arith),
    (
      not_given number unusual invalid (omega arith) (omega arith),
      (not_given number unusual invalid (omega arith) (omega arith), never_packets stride rest (payload_of n) (left - len_of n)),
    ),
  )

  module _ (v : Seen) (all_came : number_of not_arrived ≡ number → (start n : ℕ) → whole v.came start n ≡ true) (f : Format) where
    never_place : (k : ℕ) → Never number (place_checks v f k)
    unfolding place_checks
    never_place k =
        let always = never_there number unusual v all_came in
        never_both number (there v (offset_place v f k) (offset_size v f))
        (there v (count_place v f k) (count_size v f) ++ there v (offset_of v f k) (count_of v f k)) (always (offset_place v f k) (offset_size v f))
        (never_both number (there v (count_place v f k) (count_size v f)) (there v (offset_of v f k) (count_of v f k))
        (always (count_place v f k) (count_size v f))
        (always (offset_of v f k) (count_of v f k)))

    never_stored : (k : ℕ) → Never number (stored_checks v f k)
    unfolding stored_checks
    never_stored k = never_packets f.block_width (stored v f k) 0 (needed_of f k)

    module _ (maxOutput : ℕ) where
      never_segment : (k : ℕ) → Never number (segment_checks v f maxOutput k)
      unfolding Never segment_checks plan_checks area_checks
      never_segment k =
          never_both number (plan_checks v f maxOutput k) (pay (fee_of v f k) ∷ stored_checks v f k)
          (never_both number (place_checks v f k) (area_checks v f maxOutput k) (never_place k)
          (not_given number unusual limit (omega arith) (omega arith), (not_given number unusual limit (omega arith) (omega arith), tt)))
          (unusual (number_of budget) (omega arith) (omega arith), never_stored k)

      pub never_segments : (n k : ℕ) → Never number (each_segment v f maxOutput k n)
      unfolding Never each_segment
      never_segments zero k = tt
      never_segments (suc n) k =
          never_both number (segment_checks v f maxOutput k) (each_segment v f maxOutput (suc k) n) (never_segment k) (never_segments n (suc k))
