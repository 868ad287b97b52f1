-- Values in an entry's own field: the record of specs/Inline.antt, inhabited once.
use Prim.Native.Nat.{ℕ, ◌+◌, ◌*◌, ◌<◌, ◌≤◌}
use mathlib.Core.Path.{◌≡◌, refl, ap, ◌∙◌}
use mathlib.Core.Logic.Iff
use mathlib.Core.Logic.{◌↔◌, ◌⊎◌, inl, inr}
use mathlib.Core.List.{◌++◌}
use mathlib.Core.Bool.{Bool, true, false}
use native.Mathlib.Omega.{arith}
use lib.Dec.{leb, eqb}
use borrow.Author.Tests.{eqb-true, eqb-false, eq-eqb, leb-true, le-leb}
use Rattle.lists.specs.Lists.{pick}
use Rattle.checks.specs.Checks.{verdict, Holds}
use Rattle.checks.proofs.Exact.{fine, verdict_then}
use Rattle.seen.specs.Seen.{Seen, There, two}
use Rattle.seen.proofs.Words.{there_part, there_holds, there_outside, there_missing}
use Rattle.tags.specs.Tags.{type_at}
use Rattle.entries.specs.Values.{count_at, size_of, word_at, scalar_of, in_field, place_of, value_at}
use Rattle.picture.specs.Inner.{Readable}
use Rattle.picture.specs.declared.Format.{Format}
use Rattle.plan.specs.Plan.{offset_of, count_of, offset_entry, count_entry, range_there, place_checks}
use Rattle.quality.specs.Quality.{code_of}
use Rattle.patchy.specs.declared.Sizes.{Sizes}
use Rattle.promises.specs.Inline.{Inline, TwoShorts, OffsetsInline, CountsInline, RangeOutside, RangeMissing, InlineValues}
use Rattle.promises.specs.Patchy.{Call, view, page_format, Answered, Reads}
use Rattle.promises.proofs.Strict.{page_readable}
use Rattle.promises.proofs.Patchy.{reading_exact}
use Rattle.promises.proofs.Codes.{missing_told, outside_told}
use Rattle.promises.proofs.Marks.{quality_byte}

one_or_two : (n : ℕ) → 0 < n → n ≤ 2 → (n ≡ 1) ⊎ (n ≡ 2)
one_or_two n some few = by (eqb n 1) refl
  where
    by : (b : Bool) → eqb n 1 ≡ b → (n ≡ 1) ⊎ (n ≡ 2)
    by true t = inl (eqb-true n 1 t)
    by false t = let other = eqb-false n 1 t in inr (omega arith)

module _ (v : Seen) (big : Bool) (e : ℕ) where
  -- a value takes two bytes where the type is 3, else four
  module _ (P : ℕ → Type 0) (short : type_at v big e ≡ 3 → P 2) (long : (type_at v big e ≡ 3 → ⊥) → P 4) where
    by_size : P (size_of v big e)
    unfolding size_of
    by_size = by (eqb (type_at v big e) 3) refl
      where
        by : (b : Bool) → eqb (type_at v big e) 3 ≡ b → P (pick b 2 4)
        by true t = short (eqb-true (type_at v big e) 3 t)
        by false t = long (eqb-false (type_at v big e) 3 t)

  inline_which : 0 < count_at v big e → Inline v big e ↔ ((count_at v big e ≡ 1) ⊎ TwoShorts v big e)
  unfolding in_field
  inline_which some =
      let n = count_at v big e in
      by_size (λ (size : ℕ). (leb (size * n) 4 ≡ true) ↔ ((n ≡ 1) ⊎ TwoShorts v big e))
      (λ three. (λ h. joined three (one_or_two n some (omega (arith, leb-true (2 * n) 4 h))), λ q. le-leb (2 * n) 4 (few q)))
      (λ other. (λ h. inl (omega (arith, leb-true (4 * n) 4 h)), λ q. le-leb (4 * n) 4 (one other q)))
    where
      joined : type_at v big e ≡ 3 → (count_at v big e ≡ 1) ⊎ (count_at v big e ≡ 2) → (count_at v big e ≡ 1) ⊎ TwoShorts v big e
      joined three (inl q) = inl q
      joined three (inr q) = inr (q, three)

      few : (count_at v big e ≡ 1) ⊎ TwoShorts v big e → 2 * count_at v big e ≤ 4
      few (inl q) = omega arith
      few (inr (q, three)) = omega arith

      one : (type_at v big e ≡ 3 → ⊥) → (count_at v big e ≡ 1) ⊎ TwoShorts v big e → 4 * count_at v big e ≤ 4
      one other (inl q) = omega arith
      one other (inr (q, three)) = absurd (other three)

  three_never : count_at v big e ≡ 3 → Inline v big e → ⊥
  three_never three inline = by ((inline_which (omega arith)).0 inline)
    where
      by : (count_at v big e ≡ 1) ⊎ TwoShorts v big e → ⊥
      by (inl q) = omega arith
      by (inr (q, short)) = omega arith

  -- in the field, value i stands behind the i before it
  inline_place : Inline v big e → (i : ℕ) → place_of v big e i ≡ e + 8 + size_of v big e * i
  unfolding place_of
  inline_place inline i = rw inline

  single : count_at v big e ≡ 1 → value_at v big e 0 ≡ scalar_of v big e
  single one = ap (word_at v big e) (inline_place ((inline_which (omega arith)).1 (inl one)) 0 ∙ omega arith)

  of_two : TwoShorts v big e → (i p : ℕ) → e + 8 + 2 * i ≡ p → value_at v big e i ≡ two big v p
  unfolding word_at
  of_two (count, three) i p q =
      rw (inline_place ((inline_which (omega arith)).1 (inr (count, three))) i, eq-eqb (type_at v big e) 3 three, size_is) (ap (two big v) q)
    where
      size_is : size_of v big e ≡ 2
      size_is = by_size (λ (size : ℕ). size ≡ 2) (λ t. refl) (λ other. absurd (other three))

  inline_ends : (i : ℕ) → i < count_at v big e → Inline v big e → e + 8 + size_of v big e * i + size_of v big e ≤ e + 12
  unfolding in_field
  inline_ends i l =
      by_size (λ (size : ℕ). leb (size * count_at v big e) 4 ≡ true → e + 8 + size * i + size ≤ e + 12)
      (λ three h. omega (arith, leb-true (2 * count_at v big e) 4 h)) (λ other h. omega (arith, leb-true (4 * count_at v big e) 4 h))

  come_along : Inline v big e → There v e 12 → (i : ℕ) → i < count_at v big e → There v (place_of v big e i) (size_of v big e)
  come_along inline t i l =
      rw (inline_place inline i) (there_part v e 12 (e + 8 + size_of v big e * i) (size_of v big e) t (omega arith) (inline_ends i l inline))

-- of a picture that can be read
module _ (v : Seen) (f : Format) (readable : Readable v f) (k : ℕ) (l : k < f.segments) where
  offset_given : OffsetsInline v f → Holds (offset_entry v f k)
  offset_given inline =
      there_holds v _ _ (come_along v f.big f.offsets inline readable.offsets_there k (omega (arith, readable.an_offset_each)))

  count_given : CountsInline v f → Holds (count_entry v f k)
  count_given inline =
      there_holds v _ _ (come_along v f.big f.counts inline readable.counts_there k (omega (arith, readable.a_count_each)))

  -- the place of a segment is then judged by its range
  judged_by_range : OffsetsInline v f → CountsInline v f → verdict (place_checks v f k) ≡ verdict (range_there v f k)
  unfolding place_checks
  judged_by_range offsets counts =
      verdict_then (offset_entry v f k) (count_entry v f k ++ range_there v f k) ((fine (offset_entry v f k)).1 (offset_given offsets))
      ∙ verdict_then (count_entry v f k) (range_there v f k) ((fine (count_entry v f k)).1 (count_given counts))

  outside_range : OffsetsInline v f → CountsInline v f → (code_of v f k ≡ 3) ↔ RangeOutside v f k
  outside_range offsets counts =
      Iff.trans (outside_told v f k) (rw (judged_by_range offsets counts) (there_outside v (offset_of v f k) (count_of v f k)))

  missing_range : OffsetsInline v f → CountsInline v f → (code_of v f k ≡ 2) ↔ RangeMissing v f k
  missing_range offsets counts =
      Iff.trans (missing_told v f k) (rw (judged_by_range offsets counts) (there_missing v (offset_of v f k) (count_of v f k)))

module _ (c : Call) (s : Sizes) (w : ℕ) (answered : Answered c s w) where
  reads : Reads c s w
  reads = (reading_exact c s w).0 answered

  reads_readable : Readable (view c) (page_format c)
  reads_readable = page_readable (view c) c.page c.limits reads.fine.page_fine

  in_format : (k : ℕ) → k < s.segments → k < (page_format c).segments
  in_format k l = rw reads.sizes_are at l

pub inline_values : InlineValues
inline_values = record {
  which = inline_which;
  three_never = three_never;
  single = single;
  first_of_two = λ v big e q. of_two v big e q 0 (e + 8) (omega arith);
  second_of_two = λ v big e q. of_two v big e q 1 (e + 10) (omega arith);
  come_along = come_along;
  offset_given = λ v page l p inline k h. offset_given v _ (page_readable v page l p) k h inline;
  count_given = λ v page l p inline k h. count_given v _ (page_readable v page l p) k h inline;
  code_3 = λ c s w a offsets counts k h.
      rw (quality_byte c s w a k h) (outside_range (view c) (page_format c) (reads_readable c s w a) k (in_format c s w a k h) offsets counts);
  code_2 = λ c s w a offsets counts k h.
      rw (quality_byte c s w a k h) (missing_range (view c) (page_format c) (reads_readable c s w a) k (in_format c s w a k h) offsets counts);
}
