-- The writer of a row's samples, eight bytes a turn, and what it reads again of those it has written.
use Rattle.std.proofs.Common.{◌≡◌, ℕ, ◌+◌, ◌-◌, ◌*◌, ◌/◌, ◌%◌, ◌^◌, ◌<◌, ◌≤◌, Bool, true, List, length, take, drop, sym, refl, ap, ◌∙◌, arith, rules}
use Rattle.std.proofs.lemmas.List.{drop-take, take-take}
use borrow.Rule.Slice.PartMut.{mid_of, put_mid}
use Rattle.lists.proofs.Rows.{Even, Joining, joining_none, joining_more, joining_exactly, joining_part, joined_length}
use Rattle.lists.proofs.Counters.{group_before}
use Rattle.words64.specs.Words64.{digits, word}
use Rattle.rows64.specs.Rows64.{value, sample, row64}
use Rattle.rows64.specs.Inner.{RowFits}
use Rattle.words64.proofs.Digits.{digits_length, number_digits}
use Rattle.rows64.proofs.Samples.{sample_first, sample_next, sample_fits}
use Rattle.rows64.proofs.Places.{Standing, standing_first}

-- the bytes of each sample
abbrev pub bytes_of : Bool → Bool → ℕ → ℕ → List ℕ → ℕ → List ℕ
bytes_of little predict ch reset row n = digits 8 (sample little predict ch reset row n)

pub eight : (f : ℕ → ℕ) (n : ℕ) → Even (λ k. digits 8 (f k)) 8 n
eight f n i h = digits_length 8 (f i)

-- so a row is eight bytes a sample
pub row_length : (little predict : Bool) (w ch reset : ℕ) (row : List ℕ) → length (row64 little predict w ch reset row) ≡ 8 * (w * ch)
unfolding row64
row_length little predict w ch reset row = joined_length (bytes_of little predict ch reset row) 8 (w * ch) (eight _ _) ∙ omega arith

-- the first i samples are written
pub record Sampling (little predict : Bool) (w ch reset : ℕ) (raw old out : List ℕ) (i : ℕ) : Type 0 where
  pub fits : RowFits w ch reset (length raw) (length old)
  pub joins : Joining (bytes_of little predict ch reset raw) 8 (w * ch) old out i (8 * i)

module _ (little predict : Bool) (w ch reset : ℕ) (raw old out : List ℕ) (i : ℕ) (s : Sampling little predict w ch reset raw old out i) where
  -- all is written
  pub sampling_all : w * ch ≤ i → out ≡ row64 little predict w ch reset raw
  unfolding row64
  sampling_all h = joining_exactly _ 8 (w * ch) old out i (8 * i) s.joins h (eight _ _) (omega (arith, s.fits.room))

pub at_place : (f : ℕ → List ℕ) (b n : ℕ) (old out : List ℕ) (r r' o o' : ℕ)
    → Joining f b n old out r o → r ≡ r' → o ≡ o' → Joining f b n old out r' o'
at_place f b n old out r r' o o' j e p = rw (e, p) at j

-- and the next one has its place, its channel and its column
pub record Summing (little : Bool) (w ch reset : ℕ) (raw old out : List ℕ) (i at channel since : ℕ) : Type 0 where
  pub sampled : Sampling little true w ch reset raw old out i
  pub place : at ≡ 8 * i
  pub stands : Standing ch reset i channel since

pub summing_none : (little : Bool) (w ch reset : ℕ) (raw out : List ℕ) → RowFits w ch reset (length raw) (length out)
    → Summing little w ch reset raw out out 0 0 0 0
summing_none little w ch reset raw out fits =
    record {
      sampled = record { fits = fits; joins = joining_none _ 8 (w * ch) out (omega (arith, fits.room)) };
      place = omega arith;
      stands = standing_first ch reset;
    }

module _ (little : Bool) (w ch reset : ℕ) (raw old out : List ℕ) (i at channel since : ℕ)
    (s : Summing little w ch reset raw old out i at channel since) where
  -- the next one is inside the row, and where the sum goes on there is a sample before
  pub summing_inside : at < length raw → at + 8 ≤ length raw
  summing_inside h = omega (arith, s.place, s.sampled.fits.input)

  pub summing_room : length out ≡ length raw
  summing_room = omega (arith, s.sampled.joins.long, s.sampled.fits.input, s.sampled.fits.room)

  pub summing_behind : 0 < since → 8 * ch ≤ at
  summing_behind h =
      let behind = group_before i ch reset (since - 1) s.sampled.fits.channels s.sampled.fits.resets (omega (arith, s.stands.since_is)) in
      omega (arith, s.place, behind)

  pub summing_all : length raw ≤ at → out ≡ row64 little true w ch reset raw
  summing_all h = sampling_all little true w ch reset raw old out i s.sampled (omega (arith, s.place, s.sampled.fits.input))

  -- its value is of eight bytes of the row, and where the sum goes on that and what was written a column before
  module _ (v : ℕ) (is : v ≡ word little (mid_of at (at + 8 - at) raw)) where
    v-is : v ≡ value little raw i
    unfolding value
    v-is = let k : at + 8 - at ≡ 8 = omega arith in is ∙ rw (k, s.place)

    pub next_anew : v < 2 ^ 64 → since ≤ 0 → v ≡ sample little true ch reset raw i
    next_anew fits none =
        let z : i / ch % reset ≡ 0 = omega (arith, s.stands.since_is) in
        v-is ∙ sym (sample_first little ch reset raw i z (rw v-is at fits))

    pub next_on : (b r before : ℕ) → 0 < since → before ≡ at - 8 * ch → b ≡ word true (mid_of before (before + 8 - before) out)
        → r ≡ (v + b) % 2 ^ 64
        → r ≡ sample little true ch reset raw i
    unfolding word
    next_on b r before later e b-is r-is =
        let last = i - ch in
        let some : 0 < ch = s.sampled.fits.channels in
        let place : before ≡ last * 8 = omega (arith, s.place, summing_behind later) in
        let ends : 8 * i ≡ last * 8 + 8 * ch = omega (arith, s.place, summing_behind later) in
        let wide : 8 ≤ 8 * ch = omega arith in
        let long : before + 8 - before ≡ 8 = omega arith in
        let front : take 8 (drop (last * 8) out) ≡ digits 8 (sample little true ch reset raw last) =
        rw (ends, drop-take, take-take) at (joining_part _ 8 (w * ch) (eight _ _) last old out i (8 * i) s.sampled.joins (omega arith)) in
        let b-is : b ≡ sample little true ch reset raw last =
        b-is ∙ rw (long, place, front) (number_digits 8 _ (sample_fits little ch reset raw last)) in
        r-is ∙ rw (v-is, b-is) (sym (sample_next little ch reset raw i some s.sampled.fits.resets (λ z. omega (arith, s.stands.since_is))))

  pub next_summing : at < length raw → (r : ℕ) (ys : List ℕ) (channel' since' : ℕ) → r ≡ sample little true ch reset raw i → ys ≡ digits 8 r
      → Standing ch reset (i + 1) channel' since'
      → Summing little w ch reset raw old (put_mid at (at + 8 - at) out ys) ((at + 8) / 8) (at + 8) channel' since'
  next_summing h r ys channel' since' r-is ys-is stands =
      let room : i < w * ch = omega (arith, s.place, s.sampled.fits.input) in
      let more = joining_more _ 8 (w * ch) old out i (8 * i) s.sampled.joins room ys (ys-is ∙ ap (digits 8) r-is) (rw ys-is (digits_length 8 r)) in
      let n : (at + 8) / 8 ≡ i + 1 = omega (arith, s.place) in
      rw n
      record {
        sampled = record { fits = s.sampled.fits; joins = at_place _ _ _ _ _ _ _ _ _ (rw (← s.place) at more) refl (omega (arith, s.place)) };
        place = omega (arith, s.place);
        stands = stands;
      }

pub ruleset samplings = (summing_none, summing_inside, summing_room, summing_behind, summing_all, rules)
