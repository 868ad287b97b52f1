-- The front part and what came of a file: nothing is missing from a file that came whole, and what did not come has no say.
use Prim.Native.Nat.{ℕ, zero, suc, ◌+◌, ◌*◌, ◌<◌}
use mathlib.Core.Path.{◌≡◌, refl}
use mathlib.Core.List.{List, [], ◌∷◌, ◌++◌}
use mathlib.Core.Bool.{Bool, true, false, ◌&&◌}
use native.Mathlib.Omega.{arith}
use lib.ListN.{length}
use lib.Dec.{ltb, leb, eqb}
use borrow.Author.Tests.{ltb-true}
use Rattle.head.specs.Heads.{channels_of}
use Rattle.checks.specs.Numbers.{number_of, truncated, invalid, unsupported, limit, page_not_found, budget, not_arrived, leaving}
use Rattle.checks.specs.Checks.{Check, must, pay, run, Never}
use Rattle.checks.specs.declared.Refusal.{Refusal}
use Rattle.checks.proofs.Exact.{never, never_both}
use Rattle.seen.specs.Seen.{Seen, seen, arrived, whole, there, Agree}
use Rattle.seen.proofs.Blocks.{true_false}
use Rattle.seen.proofs.Alike.{same_outcome, came_whole, whole_came}
use Rattle.header.specs.Header.{header_checks, order_checks, big_endian, first_of}
use Rattle.directory.specs.Directory.{entries_at, next_at, count_checks, directory_fee_checks, tag_checks, directory_checks}
use Rattle.tiff.specs.Walk.{walk_checks}
use Rattle.entries.specs.Values.{size_of, place_of, value_at}
use Rattle.header.specs.declared.Limits.{Limits}
use Rattle.tags.specs.Slots.{bits_per_sample, tile_offsets, extra_samples, sample_format, entry_in, present}
use Rattle.profile.specs.Profile.{scalars, scalar_checks, step1, step2, step3, each_is, sample_checks, step4, step5, step6, step7, step8, numbers_of, head_in, shape_of, shape_in, profile_checks}
use Rattle.profile.specs.Inner.{from7, from5, from2}
use Rattle.profile.specs.declared.Numbers.{Numbers}
use Rattle.front.specs.Front.{profile_fee, slots_seen, front_checks, found_of}
use Rattle.std.specs.Prelude.{Err}

-- a list that has no numbers but 1 to 7 cannot give any other
usual : List Check → Bool
usual [] = true
usual (must b e ∷ cs) = ltb 0 (number_of e) && ltb (number_of e) 8 && usual cs
usual (pay n ∷ cs) = usual cs

-- a number that is none of these
abbrev pub Unusual : ℕ → Type 0
Unusual number = (n : ℕ) → 0 < n → n < 8 → n ≡ number → ⊥

pub zero_unusual : Unusual 0
zero_unusual n a b z = omega arith

pub missing_unusual : Unusual 8
missing_unusual n a b z = omega arith

module _ (number : ℕ) (unusual : Unusual number) where
  usual_never : (cs : List Check) → usual cs ≡ true → Never number cs
  unfolding usual Never
  usual_never [] h = tt
  usual_never (must b e ∷ cs) h = by (ltb 0 (number_of e)) (ltb (number_of e) 8) refl refl h (usual_never cs)
    where
      by : (s t : Bool) → ltb 0 (number_of e) ≡ s → ltb (number_of e) 8 ≡ t → s && t && usual cs ≡ true → (usual cs ≡ true → Never number cs)
          → (number_of e ≡ number → b ≡ true) × Never number cs
      by true true p q h k = (λ z. absurd (unusual (number_of e) (ltb-true 0 (number_of e) p) (ltb-true (number_of e) 8 q) z), k h)
      by true false p q h k = absurd (true_false h refl)
      by false t p q h k = absurd (true_false h refl)
  usual_never (pay n ∷ cs) h = (unusual (number_of budget) (omega arith) (omega arith), usual_never cs h)

  pub not_given : (e : Refusal) → 0 < number_of e → number_of e < 8 → {b : Bool} → number_of e ≡ number → b ≡ true
  not_given e a c z = absurd (unusual (number_of e) a c z)

  -- 8 is given for nothing but bytes that did not come
  module _ (v : Seen) (all_came : number_of not_arrived ≡ number → (start n : ℕ) → whole v.came start n ≡ true) where
    pub never_there : (at n : ℕ) → Never number (there v at n)
    unfolding Never
    never_there at n = (not_given truncated (omega arith) (omega arith), (λ z. all_came z at n, tt))

    never_header : Never number (header_checks v)
    unfolding header_checks order_checks usual
    never_header = never_both number (there v 0 8) (order_checks v) (never_there 0 8) (usual_never (order_checks v) refl)

    module _ (b : Bool) where
      never_directory : (maxTags at : ℕ) → Never number (directory_checks v b maxTags at)
      unfolding directory_checks count_checks usual
      never_directory maxTags at =
          let count : List Check = must (ltb 0 (entries_at v b at)) invalid ∷ must (leb (entries_at v b at) maxTags) limit ∷ [] in
          let body : List Check = there v (at + 2) (12 * entries_at v b at + 4) in
          let paid : List Check = directory_fee_checks v b at ++ tag_checks v b at in
          never_both number (count_checks v b maxTags at) (body ++ paid)
          (never_both number (there v at 2) count (never_there at 2) (usual_never count refl))
          (never_both number body paid (never_there (at + 2) (12 * entries_at v b at + 4)) (usual_never paid refl))

      never_walk : (maxTags page at : ℕ) → Never number (walk_checks v b maxTags page at)
      unfolding walk_checks Never
      never_walk maxTags zero at = (not_given page_not_found (omega arith) (omega arith), never_directory maxTags at)
      never_walk maxTags (suc page) at = (
        not_given page_not_found (omega arith) (omega arith),
        never_both number (directory_checks v b maxTags at) (walk_checks v b maxTags page (next_at v b at)) (never_directory maxTags at)
            (never_walk maxTags page (next_at v b at)),
      )

      never_each : (e wanted i n : ℕ) → Never number (each_is v b e wanted i n)
      unfolding each_is Never
      never_each e wanted i zero = tt
      never_each e wanted i (suc n) =
          never_both number (there v (place_of v b e i) (size_of v b e)) (must (eqb (value_at v b e i) wanted) unsupported ∷ each_is v b e wanted (suc i) n)
          (never_there (place_of v b e i) (size_of v b e))
          (not_given unsupported (omega arith) (omega arith), never_each e wanted (suc i) n)

      never_sample : (n e wanted : ℕ) → Never number (sample_checks v b n e wanted)
      unfolding sample_checks Never
      never_sample n e wanted = (not_given unsupported (omega arith) (omega arith), never_each e wanted 0 n)

      module _ (slots : List ℕ) (l : Limits) where
        never_samples : (n : ℕ) → Never number (step4 v b n slots)
        unfolding step4
        never_samples n =
            let bits = entry_in slots bits_per_sample in
            let formats = entry_in slots sample_format in
            never_both number (sample_checks v b n bits 16) (sample_checks v b n formats 2) (never_sample n bits 16) (never_sample n formats 2)

        usual_blocks : (n : Numbers) (t : Bool) → usual (from5 v b slots (shape_of n t) l) ≡ true
        unfolding usual from5 from7 step5 step6 step7 step8 shape_of
        usual_blocks n true = refl
        usual_blocks n false = refl

        never_rest : (n : Numbers) → Never number (from2 v b slots n l)
        unfolding from2 step2 step3 usual
        never_rest n =
            let two = step2 n l.max_dimension in
            let three = step3 n (entry_in slots extra_samples) in
            let five = from5 v b slots (shape_in slots n) l in
            let four = step4 v b (channels_of (head_in n)) slots in
            never_both number two (three ++ (four ++ five)) (usual_never two refl)
            (never_both number three (four ++ five) (usual_never three refl)
            (never_both number four five (never_samples (channels_of (head_in n))) (usual_never five (usual_blocks n (present (entry_in slots tile_offsets))))))

        never_profile : Never number (profile_checks v b slots l)
        unfolding profile_checks from2 from5 from7 scalar_checks scalars usual
        never_profile =
            let n = numbers_of v b slots in
            never_both number (step1 v b slots) (from2 v b slots n l) (usual_never (step1 v b slots) refl) (never_rest n)

    pub never_front : (page : ℕ) (l : Limits) → Never number (front_checks v page l)
    unfolding front_checks Never
    never_front page l =
        let big = big_endian v in
        let walk = walk_checks v big l.max_tags page (first_of v) in
        let profile = profile_checks v big (slots_seen v page) l in
        never_both number (header_checks v) (walk ++ (pay profile_fee ∷ profile)) never_header
        (never_both number walk (pay profile_fee ∷ profile) (never_walk big l.max_tags page (first_of v))
        (unusual (number_of budget) (omega arith) (omega arith), never_profile big (slots_seen v page) l))

module _ (page : ℕ) (l : Limits) (u w : ℕ) where
  -- of a whole file nothing is missing
  pub never_missing : (file : List ℕ) → run (front_checks (seen file []) page l) u ≡ Err (leaving not_arrived w) → ⊥
  never_missing file =
      λ q. never 8 (front_checks (seen file []) page l) u (leaving not_arrived w) (never_front 8 missing_unusual (seen file []) (λ z. whole_came file) page l) q refl

  -- nor of one with a map by which every byte came
  pub never_missing_by : (file map : List ℕ) → ((i : ℕ) → i < length file → arrived map i ≡ true)
      → run (front_checks (seen file map) page l) u ≡ Err (leaving not_arrived w) → ⊥
  never_missing_by file map came = rw (came_whole file map came) (never_missing file)

-- answer, format and units left are the same for files that agree in all that came
pub same_found : (f g map : List ℕ) → Agree f g map → (page : ℕ) (l : Limits) (u : ℕ) → found_of (seen f map) page l u ≡ found_of (seen g map) page l u
same_found f g map a page l u = same_outcome (λ v. found_of v page l u) f g map a
