-- Entries that carry values: the tests of steps 1, 4 and 8 and what is true of an entry exactly if they hold.
use Prim.Native.Nat.{ℕ, zero, suc, ◌+◌, ◌<◌, ◌≤◌}
use mathlib.Core.Path.{◌≡◌, refl}
use mathlib.Core.Logic.{◌↔◌, ◌⊎◌, inl, inr, ⊎_elim}
use mathlib.Core.List.{List, [], ◌∷◌}
use mathlib.Core.Bool.{Bool, true, false, not, ◌&&◌, ◌||◌}
use native.Mathlib.Omega.{arith}
use native.Mathlib.Nat.{eq-or-lt_of_le}
use lib.ListN.{length, get_or}
use lib.Dec.{eqb}
use borrow.Author.Tests.{eqb-true, eqb-false, eq-eqb, ne_eqb}
use Rattle.checks.specs.Numbers.{unsupported}
use Rattle.checks.specs.Checks.{Check, must, Holds}
use Rattle.checks.proofs.Exact.{both, holds_then, holds_both}
use Rattle.seen.specs.Seen.{Seen, there, There}
use Rattle.seen.proofs.Blocks.{true_false}
use Rattle.seen.proofs.Words.{there_holds, holds_there}
use Rattle.tags.specs.Slots.{bits_per_sample, sample_format, entry_in}
use Rattle.tags.specs.Tags.{type_at}
use Rattle.entries.specs.Values.{count_at, numeric, has_values, size_of, place_of, value_at}
use Rattle.profile.specs.Profile.{carries, scalars, scalar_fine, scalar_checks, step1, each_is, sample_checks, step4, step8}
use Rattle.profile.specs.Accepted.{Carries, SamplesFine}

-- tests in numbers
pos_absent : (e : ℕ) → 0 < e → eqb e 0 ≡ false
pos_absent e h = ne_eqb e 0 (λ z. omega arith)

module _ (v : Seen) (big : Bool) where
  -- the two types of numbers
  numeric_is : (e : ℕ) → numeric v big e ≡ true → (type_at v big e ≡ 3) ⊎ (type_at v big e ≡ 4)
  unfolding numeric
  numeric_is e h = by (eqb (type_at v big e) 3) (eqb (type_at v big e) 4) refl refl h
    where
      by : (a b : Bool) → eqb (type_at v big e) 3 ≡ a → eqb (type_at v big e) 4 ≡ b → a || b ≡ true → (type_at v big e ≡ 3) ⊎ (type_at v big e ≡ 4)
      by true b p q t = inl (eqb-true (type_at v big e) 3 p)
      by false true p q t = inr (eqb-true (type_at v big e) 4 q)
      by false false p q t = absurd (true_false t refl)

  is_numeric : (e : ℕ) → (type_at v big e ≡ 3) ⊎ (type_at v big e ≡ 4) → numeric v big e ≡ true
  unfolding numeric
  is_numeric e (inl q) = rw q
  is_numeric e (inr q) = rw q

  pub carries_is : (e n : ℕ) → carries v big e n ≡ true → Carries v big e n
  unfolding carries has_values
  carries_is e n h = by (eqb e 0) (eqb (count_at v big e) n) (numeric v big e) refl refl refl h
    where
      by : (a b c : Bool) → eqb e 0 ≡ a → eqb (count_at v big e) n ≡ b → numeric v big e ≡ c → not a && (b && c) ≡ true → Carries v big e n
      by false true true p q r t = record { present = omega (arith, eqb-false e 0 p); typed = numeric_is e r; as_many = eqb-true (count_at v big e) n q }
      by false true false p q r t = absurd (true_false t refl)
      by false false c p q r t = absurd (true_false t refl)
      by true b c p q r t = absurd (true_false t refl)

  is_carried : (e n : ℕ) → Carries v big e n → carries v big e n ≡ true
  unfolding carries has_values
  is_carried e n c = rw (pos_absent e c.present, eq-eqb (count_at v big e) n c.as_many, is_numeric e c.typed)

  pub lists_fine : (offsets counts n : ℕ) → Holds (step8 v big offsets counts n) ↔ (Carries v big offsets n × Carries v big counts n)
  unfolding Holds step8
  lists_fine offsets counts n = (
    λ h. (carries_is offsets n h.0, carries_is counts n h.1.0),
    λ p. (is_carried offsets n p.0, (is_carried counts n p.1, tt)),
  )

  -- values one by one
  record EachFine (e wanted i n : ℕ) : Type 0 where
    is_there : (j : ℕ) → i ≤ j → j < i + n → There v (place_of v big e j) (size_of v big e)
    is_wanted : (j : ℕ) → i ≤ j → j < i + n → value_at v big e j ≡ wanted

  abbrev bytes : ℕ → ℕ → List Check
  bytes e i = there v (place_of v big e i) (size_of v big e)

  abbrev equal : ℕ → ℕ → ℕ → ℕ → List Check
  equal e wanted i n = must (eqb (value_at v big e i) wanted) unsupported ∷ each_is v big e wanted (suc i) n

  each_is_fine : (e wanted n i : ℕ) → Holds (each_is v big e wanted i n) → EachFine e wanted i n
  unfolding Holds each_is
  each_is_fine e wanted zero i h = record { is_there = λ j a b. absurd (omega arith); is_wanted = λ j a b. absurd (omega arith) }
  each_is_fine e wanted (suc n) i h =
      let x = holds_then (bytes e i) (equal e wanted i n) h in
      let more = each_is_fine e wanted n (suc i) x.1.1 in
      record {
        is_there = λ j a b.
            ⊎_elim (λ (z : i ≡ j). rw (← z) (holds_there v (place_of v big e i) (size_of v big e) x.0)) (λ (k : i < j). more.is_there j k (omega arith))
            (eq-or-lt_of_le a);
        is_wanted = λ j a b.
            ⊎_elim (λ (z : i ≡ j). rw (← z) (eqb-true (value_at v big e i) wanted x.1.0)) (λ (k : i < j). more.is_wanted j k (omega arith))
            (eq-or-lt_of_le a);
      }

  each_passes : (e wanted n i : ℕ) → EachFine e wanted i n → Holds (each_is v big e wanted i n)
  unfolding Holds each_is
  each_passes e wanted zero i f = tt
  each_passes e wanted (suc n) i f =
      holds_both (bytes e i) (equal e wanted i n)
      (there_holds v (place_of v big e i) (size_of v big e) (f.is_there i (omega arith) (omega arith))) (
        eq-eqb (value_at v big e i) wanted (f.is_wanted i (omega arith) (omega arith)),
        each_passes e wanted n (suc i) (record {
          is_there = λ j a b. f.is_there j (omega arith) (omega arith);
          is_wanted = λ j a b. f.is_wanted j (omega arith) (omega arith);
        }),
      )

  sample_fine : (n e wanted : ℕ) → Holds (sample_checks v big n e wanted) ↔ SamplesFine v big n e wanted
  unfolding Holds sample_checks
  sample_fine n e wanted = (
    λ h.
        let each = each_is_fine e wanted n 0 h.1 in
        record {
          as_many = carries_is e n h.0;
          each_there = λ i l. each.is_there i (omega arith) (omega arith);
          each_is = λ i l. each.is_wanted i (omega arith) (omega arith);
        },
    λ f. (
      is_carried e n f.as_many,
      each_passes e wanted n 0 (record { is_there = λ j a b. f.each_there j (omega arith); is_wanted = λ j a b. f.each_is j (omega arith) }),
    ),
  )

  pub samples_fine : (n : ℕ) (slots : List ℕ)
      → Holds (step4 v big n slots) ↔ (SamplesFine v big n (entry_in slots bits_per_sample) 16 × SamplesFine v big n (entry_in slots sample_format) 2)
  unfolding step4
  samples_fine n slots =
      let bits = entry_in slots bits_per_sample in
      let formats = entry_in slots sample_format in
      both (sample_checks v big n bits 16) (sample_checks v big n formats 2) (sample_fine n bits 16) (sample_fine n formats 2)

  -- a scalar slot
  module _ (slots : List ℕ) where
    abbrev pub OneNumber : ℕ → Type 0
    OneNumber k = (entry_in slots k ≡ 0) ⊎ Carries v big (entry_in slots k) 1

    scalar_is : (k : ℕ) → scalar_fine v big slots k ≡ true → OneNumber k
    unfolding scalar_fine carries
    scalar_is k h = by (eqb (entry_in slots k) 0) refl h
      where
        by : (a : Bool) → eqb (entry_in slots k) 0 ≡ a → a || has_values v big (entry_in slots k) 1 ≡ true → OneNumber k
        by true p t = inl (eqb-true (entry_in slots k) 0 p)
        by false p t = inr (carries_is (entry_in slots k) 1 (rw p t))

    is_scalar : (k : ℕ) → OneNumber k → scalar_fine v big slots k ≡ true
    unfolding scalar_fine has_values
    is_scalar k (inl z) = rw (eq-eqb (entry_in slots k) 0 z)
    is_scalar k (inr c) =
        let e = entry_in slots k in
        rw (pos_absent e c.present, eq-eqb (count_at v big e) 1 c.as_many, is_numeric e c.typed)

    scalars_are : (ks : List ℕ) → Holds (scalar_checks v big slots ks) → (i : ℕ) → i < length ks → OneNumber (get_or ks i 0)
    unfolding Holds scalar_checks
    scalars_are [] h i l = absurd (omega arith)
    scalars_are (k ∷ ks) h zero l = scalar_is k h.0
    scalars_are (k ∷ ks) h (suc i) l = scalars_are ks h.1 i (omega arith)

    are_scalars : (ks : List ℕ) → ((i : ℕ) → i < length ks → OneNumber (get_or ks i 0)) → Holds (scalar_checks v big slots ks)
    unfolding Holds scalar_checks
    are_scalars [] f = tt
    are_scalars (k ∷ ks) f = (is_scalar k (f 0 (omega arith)), are_scalars ks (λ i l. f (suc i) (omega arith)))

    pub scalars_fine : Holds (step1 v big slots) ↔ ((i : ℕ) → i < 13 → OneNumber (get_or scalars i 0))
    unfolding scalars
    scalars_fine = (scalars_are scalars, are_scalars scalars)
