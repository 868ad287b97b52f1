-- From the answers of the steps to the format or the first refusal.
use Prim.Native.Nat.{ℕ}
use mathlib.Core.Path.{◌≡◌, refl, sym, ap, ◌∙◌}
use mathlib.Core.List.{List, ◌++◌, append_assoc}
use mathlib.Core.Bool.{Bool, true, false}
use native.Mathlib.Omega.{arith}
use borrow.Author.Tests.{ltb-true}
use Rattle.head.specs.Heads.{Head, channels_of}
use Rattle.std.specs.Prelude.{Result, Ok, Err}
use Rattle.checks.specs.Numbers.{Verdict, no_refusal}
use Rattle.checks.specs.Checks.{Check, verdict, giving, Holds}
use Rattle.checks.specs.declared.Refusal.{Refusal}
use Rattle.checks.proofs.Exact.{fine, holds_then, verdict_then}
use Rattle.checks.proofs.Rules.{refused_before, gives_after, tests_refused, tests_passed}
use Rattle.seen.specs.Seen.{Seen}
use Rattle.tags.specs.Slots.{strip_offsets, strip_byte_counts, tile_offsets, tile_byte_counts, extra_samples, entry_in}
use Rattle.tags.specs.Inner.{EntryThere, SlotsThere}
use Rattle.header.specs.declared.Limits.{Limits}
use Rattle.picture.specs.declared.Format.{Format}
use Rattle.profile.specs.Profile.{head_in, step1, step2, step3, step4, step5, step6, step7, step8, numbers_of, shape_of, shape_in, segments_of, offsets_in, counts_in, profile_checks, format_with, profile_found}
use Rattle.profile.specs.Inner.{Sided, SoundShape, number_checks, layout_checks, from7, from5, from2, found_from7, found_from5, found_from2}
use Rattle.profile.specs.declared.Numbers.{Numbers}
use Rattle.profile.specs.declared.Shape.{Shape}
use Rattle.layout.specs.Inner.{sizes_of, counted_of}
use Rattle.profile.proofs.Accepted.{profile_split}
use Rattle.layout.specs.declared.Counts.{Counts}

-- some steps before others: refused, they are the answer; passed, the others go on
module _ (all a b : List Check) (split : all ≡ a ++ b) (f : Format) where
  refused_by : {e : Refusal} → Err e ≡ verdict a → Err e ≡ giving (verdict all) f
  refused_by q = rw split (refused_before a b f q)

  passed_by : {y : Unit {0}} {p : Result Format Refusal} → Ok y ≡ verdict a → p ≡ giving (verdict b) f → p ≡ giving (verdict all) f
  passed_by q k = rw split (gives_after a b f q k)

-- steps 7 and 8
module _ (v : Seen) (big : Bool) (entries : ℕ) (slots : List ℕ) (s : Shape) (l : Limits) where
  abbrev seven : List Check
  seven = step7 s l.max_segments l.max_output

  abbrev eight : List Check
  eight = step8 v big (offsets_in slots s.tiled) (counts_in slots s.tiled) (segments_of s)

  split_7 : from7 v big slots s l ≡ seven ++ eight
  unfolding from7
  split_7 = refl

  pub sizes_refused : {e : Refusal} → Err e ≡ counted_of s l.max_segments l.max_output → Err e ≡ found_from7 v big entries slots s l
  unfolding counted_of
  sizes_refused q =
      refused_by (from7 v big slots s l) seven eight split_7 (format_with big entries slots s) (sym (tests_refused (verdict seven) (sizes_of s) _ q))

  module _ {n : Counts} (q : Ok n ≡ counted_of s l.max_segments l.max_output)
      {os cs : ℕ} (eo : os ≡ offsets_in slots s.tiled) (ec : cs ≡ counts_in slots s.tiled) where
    sized : (verdict seven ≡ no_refusal) × (n ≡ sizes_of s)
    unfolding counted_of
    sized = tests_passed (verdict seven) (sizes_of s) _ q

    lists_told : {t : Verdict} → t ≡ verdict (step8 v big os cs n.segments) → verdict (from7 v big slots s l) ≡ t
    lists_told et = ap verdict split_7 ∙ verdict_then seven eight sized.0 ∙ rw (← eo, ← ec, ← ap (λ (x : Counts). x.segments) sized.1) (sym et)

    pub lists_refused : {e : Refusal} → Err e ≡ verdict (step8 v big os cs n.segments) → Err e ≡ found_from7 v big entries slots s l
    lists_refused f = rw (lists_told f)

    abbrev read : Format
    read = record {
      width = s.width;
      height = s.height;
      block_width = s.block_width;
      block_height = s.block_height;
      tiled = s.tiled;
      across = n.across;
      segments = n.segments;
      output = n.output;
      big = big;
      offsets = os;
      counts = cs;
      entries = entries;
      mono = s.mono;
    }

    pub lists_fine : {y : Unit {0}} → Ok y ≡ verdict (step8 v big os cs n.segments) → Ok read ≡ found_from7 v big entries slots s l
    unfolding format_with
    lists_fine f = rw (lists_told f, eo, ec, sized.1)

-- the entries of the two arrays are there
module _ (v : Seen) (slots : List ℕ) (t : SlotsThere v slots) where
  pub offsets_there : {os : ℕ} (tiled : Bool) → os ≡ offsets_in slots tiled → EntryThere v os
  offsets_there true e = rw e (t.at_slot tile_offsets)
  offsets_there false e = rw e (t.at_slot strip_offsets)

  pub counts_there : {cs : ℕ} (tiled : Bool) → cs ≡ counts_in slots tiled → EntryThere v cs
  counts_there true e = rw e (t.at_slot tile_byte_counts)
  counts_there false e = rw e (t.at_slot strip_byte_counts)

-- step 2 passed, so the picture has sides
pub sided : (n : Numbers) (extra most : ℕ) {y : Unit {0}} → Ok y ≡ verdict (number_checks n extra most) → Sided n
unfolding number_checks step2 Holds
sided n extra most e =
    let k = (holds_then (step2 n most) (step3 n extra) ((fine (number_checks n extra most)).0 (sym e))).0 in
    record { some_width = ltb-true 0 n.width k.0; some_height = ltb-true 0 n.height k.1.1.0 }

-- step 5 passed, so a block has sides
pub sound : (n : Numbers) (tiled : Bool) (s : Shape) (slots : List ℕ) {y : Unit {0}} → Sided n → s ≡ shape_of n tiled → Ok y ≡ verdict (layout_checks s slots)
    → SoundShape s
unfolding layout_checks step5 shape_of Holds
sound n tiled s slots has is e =
    let k = (holds_then (step5 s) (step6 s slots) ((fine (layout_checks s slots)).0 (sym e))).0 in
    let w : s.width ≡ n.width = ap (λ (x : Shape). x.width) is in
    let h : s.height ≡ n.height = ap (λ (x : Shape). x.height) is in
    record {
      some_width = omega (arith, has.some_width);
      some_height = omega (arith, has.some_height);
      some_block_width = ltb-true 0 s.block_width k.0;
      some_block_height = ltb-true 0 s.block_height k.1.1.0;
    }

-- steps 5 and 6, then the rest
module _ (v : Seen) (big : Bool) (entries : ℕ) (slots : List ℕ) (n : Numbers) (l : Limits) {s : Shape} (es : s ≡ shape_in slots n) where
  abbrev shaped : Format
  shaped = format_with big entries slots (shape_in slots n)

  split_5 : from5 v big slots (shape_in slots n) l ≡ layout_checks s slots ++ from7 v big slots s l
  unfolding from5 layout_checks
  split_5 = rw (← es) (sym (append_assoc (step5 s) (step6 s slots) (from7 v big slots s l)))

  pub layout_refused : {e : Refusal} → Err e ≡ verdict (layout_checks s slots) → Err e ≡ found_from5 v big entries slots n l
  layout_refused q = refused_by (from5 v big slots (shape_in slots n) l) (layout_checks s slots) (from7 v big slots s l) split_5 shaped q

  pub layout_fine : {y : Unit {0}} {p : Result Format Refusal} → Ok y ≡ verdict (layout_checks s slots) → p ≡ found_from7 v big entries slots s l
      → p ≡ found_from5 v big entries slots n l
  layout_fine q k = passed_by (from5 v big slots (shape_in slots n) l) (layout_checks s slots) (from7 v big slots s l) split_5 shaped q (rw (← es) k)

-- steps 2 and 3, step 4, then the rest
module _ (v : Seen) (big : Bool) (entries : ℕ) (slots : List ℕ) (n : Numbers) (l : Limits) where
  abbrev two : List Check
  two = number_checks n (entry_in slots extra_samples) l.max_dimension

  abbrev four : List Check
  four = step4 v big (channels_of (head_in n)) slots

  abbrev five : List Check
  five = from5 v big slots (shape_in slots n) l

  abbrev given : Format
  given = format_with big entries slots (shape_in slots n)

  split_2 : from2 v big slots n l ≡ two ++ (four ++ five)
  unfolding from2 number_checks
  split_2 = sym (append_assoc (step2 n l.max_dimension) (step3 n (entry_in slots extra_samples)) (four ++ five))

  pub numbers_refused : {e : Refusal} → Err e ≡ verdict two → Err e ≡ found_from2 v big entries slots n l
  numbers_refused q = refused_by (from2 v big slots n l) two (four ++ five) split_2 given q

  module _ {y : Unit {0}} (q : Ok y ≡ verdict two) {head : Head} (eh : head ≡ head_in n) {samples : ℕ} (ec : samples ≡ channels_of head) where
    pub samples_refused : {e : Refusal} → Err e ≡ verdict (step4 v big samples slots) → Err e ≡ found_from2 v big entries slots n l
    samples_refused f =
        passed_by (from2 v big slots n l) two (four ++ five) split_2 given q (refused_by (four ++ five) four five refl given (rw (ec, eh) at f))

    pub samples_fine : {z : Unit {0}} {p : Result Format Refusal} → Ok z ≡ verdict (step4 v big samples slots) → p ≡ found_from5 v big entries slots n l
        → p ≡ found_from2 v big entries slots n l
    samples_fine f k =
        passed_by (from2 v big slots n l) two (four ++ five) split_2 given q (passed_by (four ++ five) four five refl given (rw (ec, eh) at f) k)

-- step 1, then the rest
module _ (v : Seen) (big : Bool) (entries : ℕ) (slots : List ℕ) (l : Limits) where
  abbrev others : List Check
  others = from2 v big slots (numbers_of v big slots) l

  abbrev found : Format
  found = format_with big entries slots (shape_in slots (numbers_of v big slots))

  pub scalars_refused : {e : Refusal} → Err e ≡ verdict (step1 v big slots) → Err e ≡ profile_found v big entries slots l
  scalars_refused q = refused_by (profile_checks v big slots l) (step1 v big slots) others (profile_split v big slots l) found q

  pub scalars_fine : {y : Unit {0}} {n : Numbers} {p : Result Format Refusal} → Ok y ≡ verdict (step1 v big slots) → n ≡ numbers_of v big slots
      → p ≡ found_from2 v big entries slots n l → p ≡ profile_found v big entries slots l
  scalars_fine q en k = passed_by (profile_checks v big slots l) (step1 v big slots) others (profile_split v big slots l) found q (rw en at k)
