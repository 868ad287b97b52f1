-- What the number of a segment's quality means, exactly, and what follows for its charge and for what it shows.
use Prim.Native.Nat.{ℕ}
use mathlib.Core.Path.{◌≡◌, refl}
use mathlib.Core.Logic.Iff
use mathlib.Core.Logic.{◌↔◌}
use mathlib.Core.List.{[]}
use mathlib.Core.Bool.{Bool, true, false}
use native.Mathlib.Omega.{arith}
use Rattle.lists.specs.Lists.{pick}
use Rattle.checks.specs.Numbers.{truncated, not_arrived, Verdict, no_refusal}
use Rattle.checks.specs.Checks.{verdict, Holds, cost}
use Rattle.checks.proofs.Exact.{refused_passed, fine}
use Rattle.checks.specs.Exact.{RefusedAt}
use Rattle.checks.proofs.Refusals.{refused_free}
use Rattle.seen.specs.Seen.{Seen, inside, whole}
use Rattle.picture.specs.declared.Format.{Format}
use Rattle.entries.specs.Values.{size_of, place_of}
use Rattle.plan.specs.Plan.{offset_of, count_of, place_checks, stored_of, fee_of}
use Rattle.logluv_segment.specs.Segment.{stored_checks}
use Rattle.showing.specs.Shown.{shown}
use Rattle.quality.specs.Quality.{judged, code_is, where_good, quality_is, code_of, segment_charge, shows_of}
use Rattle.quality.specs.declared.Quality.{Quality}
use Rattle.quality.specs.declared.Quality.TheVariants as QualityIs
use Rattle.promises.specs.Strict.{Good}
use Rattle.promises.proofs.Segments.{good_fine}
use Rattle.std.specs.Prelude.{Ok, Err}

-- the answer of a place is one of three
module _ (P : Verdict → Type 0) (passed : P no_refusal) (outside : P (Err truncated)) (missing : P (Err not_arrived)) where
  there_or : (v : Seen) (at n : ℕ) (rest : Verdict) → P rest
      → P (pick (inside v.size at n) (pick (whole v.came at n) rest (Err not_arrived)) (Err truncated))
  there_or v at n rest p = by (inside v.size at n) (whole v.came at n)
    where
      by : (in_file came : Bool) → P (pick in_file (pick came rest (Err not_arrived)) (Err truncated))
      by true true = p
      by true false = missing
      by false came = outside

  by_place : (v : Seen) (f : Format) (k : ℕ) → P (verdict (place_checks v f k))
  unfolding place_checks verdict
  by_place v f k =
      there_or v (place_of v f.big f.offsets k) (size_of v f.big f.offsets) _
      (there_or v (place_of v f.big f.counts k) (size_of v f.big f.counts) _ (there_or v (offset_of v f k) (count_of v f k) _ passed))

module _ (v : Seen) (f : Format) (k : ℕ) where
  abbrev place : Verdict
  place = verdict (place_checks v f k)

  abbrev packets : Verdict
  packets = verdict (stored_checks v f k)

  -- the number by the answers of the place and of the packets
  abbrev code : Verdict → Verdict → ℕ
  code p t = code_is (judged p t (stored_of v f k))

  place_free : cost (place_checks v f k) ≡ 0
  unfolding place_checks cost
  place_free = refl

  -- 1: the segment is good
  good_told : (code_of v f k ≡ 1) ↔ ((place ≡ no_refusal) × (packets ≡ no_refusal))
  unfolding quality_is
  good_told =
      by_place (λ p. (code p packets ≡ 1) ↔ ((p ≡ no_refusal) × (packets ≡ no_refusal))) (placed packets)
      (λ e. absurd (omega arith), λ p. absurd (refused_passed truncated tt p.0))
      (λ e. absurd (omega arith), λ p. absurd (refused_passed not_arrived tt p.0)) v f k
    where
      placed : (t : Verdict) → (code no_refusal t ≡ 1) ↔ ((no_refusal ≡ no_refusal) × (t ≡ no_refusal))
      placed (Ok x) = (λ e. (refl, refl), λ p. refl)
      placed (Err n) = (λ e. absurd (omega arith), λ p. absurd (refused_passed n tt p.1))

  pub code_good : (code_of v f k ≡ 1) ↔ Good v f k
  code_good = Iff.trans good_told (Iff.trans (Iff.and (fine (place_checks v f k)) (fine (stored_checks v f k))) (good_fine v f k))

  -- 2: of its offset, its count and its stored bytes, the first that can't be read lies in the file but did not come
  pub missing_told : (code_of v f k ≡ 2) ↔ (place ≡ Err not_arrived)
  unfolding quality_is
  missing_told =
      by_place (λ p. (code p packets ≡ 2) ↔ (p ≡ Err not_arrived)) (placed packets)
      (λ e. absurd (omega arith), λ q. absurd cc) (λ e. refl, λ q. refl) v f k
    where
      placed : (t : Verdict) → (code no_refusal t ≡ 2) ↔ (no_refusal ≡ Err not_arrived)
      placed (Ok x) = (λ e. absurd (omega arith), λ q. absurd cc)
      placed (Err n) = (λ e. absurd (omega arith), λ q. absurd cc)

  pub code_missing : (code_of v f k ≡ 2) ↔ RefusedAt (place_checks v f k) 0 not_arrived 0
  code_missing = Iff.trans missing_told (refused_free (place_checks v f k) not_arrived place_free)

  -- 3: the first of these that can't be read lies outside the file
  pub outside_told : (code_of v f k ≡ 3) ↔ (place ≡ Err truncated)
  unfolding quality_is
  outside_told =
      by_place (λ p. (code p packets ≡ 3) ↔ (p ≡ Err truncated)) (placed packets)
      (λ e. refl, λ q. refl) (λ e. absurd (omega arith), λ q. absurd cc) v f k
    where
      placed : (t : Verdict) → (code no_refusal t ≡ 3) ↔ (no_refusal ≡ Err truncated)
      placed (Ok x) = (λ e. absurd (omega arith), λ q. absurd cc)
      placed (Err n) = (λ e. absurd (omega arith), λ q. absurd cc)

  pub code_outside : (code_of v f k ≡ 3) ↔ RefusedAt (place_checks v f k) 0 truncated 0
  code_outside = Iff.trans outside_told (refused_free (place_checks v f k) truncated place_free)

  -- 4: all three can be read, and the packets are not accepted
  rejected_told : (code_of v f k ≡ 4) ↔ ((place ≡ no_refusal) × (packets ≡ no_refusal → ⊥))
  unfolding quality_is
  rejected_told =
      by_place (λ p. (code p packets ≡ 4) ↔ ((p ≡ no_refusal) × (packets ≡ no_refusal → ⊥))) (placed packets)
      (λ e. absurd (omega arith), λ p. absurd (refused_passed truncated tt p.0))
      (λ e. absurd (omega arith), λ p. absurd (refused_passed not_arrived tt p.0)) v f k
    where
      placed : (t : Verdict) → (code no_refusal t ≡ 4) ↔ ((no_refusal ≡ no_refusal) × (t ≡ no_refusal → ⊥))
      placed (Ok x) = (λ e. absurd (omega arith), λ p. absurd (p.1 refl))
      placed (Err n) = (λ e. (refl, refused_passed n tt), λ p. refl)

  pub code_rejected : (code_of v f k ≡ 4) ↔ (Holds (place_checks v f k) × (Holds (stored_checks v f k) → ⊥))
  code_rejected = Iff.trans rejected_told (Iff.and (fine (place_checks v f k)) (Iff.not (fine (stored_checks v f k))))

  is_good_quality : Good v f k → quality_is v f k ≡ QualityIs.Good (stored_of v f k)
  unfolding quality_is
  is_good_quality g = let p = (good_fine v f k).1 g in rw ((fine (place_checks v f k)).1 p.0, (fine (stored_checks v f k)).1 p.1)

  -- a good segment is charged its fee and shows its pixels
  pub good_charged : Good v f k → segment_charge v f k ≡ fee_of v f k
  good_charged g = rw (is_good_quality g)

  pub good_shown : Good v f k → shows_of v f k ≡ shown v f k
  good_shown g = rw (is_good_quality g)

  -- any other shows nothing
  pub other_blank : (Good v f k → ⊥) → shows_of v f k ≡ []
  other_blank bad = by (quality_is v f k) (λ e. bad (code_good.0 e))
    where
      by : (q : Quality) → (code_is q ≡ 1 → ⊥) → where_good q (shown v f k) ≡ []
      by (QualityIs.Good stored) other = absurd (other refl)
      by QualityIs.Missing other = refl
      by QualityIs.Outside other = refl
      by QualityIs.Rejected other = refl
