-- Each of the three demands is met: the records of specs/Demands.antt, inhabited once.
use Prim.Native.Nat.{ℕ}
use mathlib.Core.Path.{◌≡◌, refl, sym, ap, ◌∙◌}
use mathlib.Core.Logic.Iff
use mathlib.Core.Logic.{◌⊎◌, inl, inr}
use lib.ListN.{length}
use Rattle.checks.specs.Checks.{run}
use Rattle.checks.proofs.Refusals.{refused}
use Rattle.handle.specs.declared.Handle.{Handle}
use Rattle.handle.specs.declared.Inspected.{Inspected}
use Rattle.handle.specs.Handle.{inspected_with}
use Rattle.handle.proofs.Answers.{inspected_refused}
use Rattle.inspection.specs.Inspection.{handle_of}
use Rattle.decoding.specs.Strict.{both_checks}
use Rattle.patchy.specs.Patchy.{reading_number, reading_left}
use Rattle.patchy.specs.declared.Sizes.{Sizes}
use Rattle.patchy.specs.declared.Reading.{Reading}
use Rattle.plain_patchy.specs.Read.{answer_of}
use Rattle.plain_patchy.specs.declared.Answer.{Answer}
use Rattle.promises.specs.StrictCall.{StrictCall, whole_view, inspect_answer, decode_answer}
use Rattle.promises.specs.StrictCall as strict
use Rattle.promises.specs.Patchy.{Call, Answered, RefusedWith}
use Rattle.promises.specs.Patchy as patchy
use Rattle.promises.specs.Demands.{Numbered, Demand1, Demand2, Demand3, Demand3AtFaces}
use Rattle.promises.proofs.Strict.{inspection_exact, inspection_refused}
use Rattle.promises.proofs.Handles.{decode_exact, decode_refused, decode_invalid}
use Rattle.promises.proofs.Reading.{read_exact}
use Rattle.promises.proofs.Numbers.{inspection_numbered, decode_numbered, read_numbered}
use Rattle.promises.proofs.Decoded.{decode_shows, read_shows}
use Rattle.promises.proofs.Patchy.{reading_exact, reading_number_lem, reading_numbered, reading_refused, refused_leaves}
use Rattle.promises.proofs.Unseen.{lost_bytes_have_no_influence}
use Rattle.promises.proofs.Marks.{quality_good, good_shows, others_blank, good_never_blank}
use Rattle.checks.specs.Numbers.{number_of, Told, leaving}
use Rattle.checks.specs.declared.Refusal.{Refusal}
use Rattle.checks.specs.declared.Refused.{Refused}
use Rattle.std.specs.Prelude.{Result, Ok, Err}

-- an answer is a picture or a refusal
reading_cases : (c : Call) (r : Result Reading Refused) → patchy.answer c ≡ r → ((s : Sizes) × (w : ℕ) × Answered c s w)
    ⊎ ((e : Refusal) × (w : ℕ) × (RefusedWith c e w × Numbered 9 (number_of e)))
reading_cases c (Ok r) q = inl (r.sizes, r.left, q)
reading_cases c (Err r) q = inr (r.refusal, r.left, (q, reading_numbered c r.refusal r.left q))

module _ (c : StrictCall) where
  inspection_cases : (r : Result Inspected Refused) → inspect_answer c ≡ r
      → ((h : Handle) × (w : ℕ) × (inspect_answer c ≡ Ok (inspected_with h w)))
      ⊎ ((e : Refusal) × (w : ℕ) × ((inspect_answer c ≡ Err (leaving e w)) × Numbered 7 (number_of e)))
  inspection_cases (Ok i) q = inl (i.handle, i.left, q)
  inspection_cases (Err r) q = inr (r.refusal, r.left, (q, inspection_numbered c.file c.page c.limits c.units r.refusal r.left q))

  decode_cases : (h : Handle) (t : Told) → decode_answer c h ≡ t
      → ((w : ℕ) × (decode_answer c h ≡ Ok w)) ⊎ ((e : Refusal) × (w : ℕ) × ((decode_answer c h ≡ Err (leaving e w)) × Numbered 7 (number_of e)))
  decode_cases h (Ok w) q = inl (w, q)
  decode_cases h (Err r) q =
      inr (r.refusal, r.left, (q, decode_numbered (whole_view c) c.limits h (length c.output) (length c.scratch) c.units r.refusal r.left q))

  -- what is refused of inspection and decode in one call is refused by their checks
  read_told : (e : Refusal) (w : ℕ) → strict.answer c ≡ Err (leaving e w)
      → run (both_checks (whole_view c) c.page c.limits (length c.output) (length c.scratch)) c.units ≡ Err (leaving e w)
  read_told e w q = inspected_refused _ (handle_of (whole_view c) c.page) e w q

  read_cases : (r : Result Inspected Refused) → strict.answer c ≡ r
      → ((h : Handle) × (w : ℕ) × (strict.answer c ≡ Ok (inspected_with h w)))
      ⊎ ((e : Refusal) × (w : ℕ) × ((strict.answer c ≡ Err (leaving e w)) × Numbered 7 (number_of e)))
  read_cases (Ok i) q = inl (i.handle, i.left, q)
  read_cases (Err r) q =
      let t = read_told r.refusal r.left q in
      inr (r.refusal, r.left, (q, read_numbered c.file c.page c.limits (length c.output) (length c.scratch) c.units r.refusal r.left t))

pub demand_1 : Demand1
demand_1 = record {
  reading_answers = λ c. reading_cases c (patchy.answer c) refl;
  reading_refused = reading_refused;
  reading_leaves = refused_leaves;
  inspection_answers = λ c. inspection_cases c (inspect_answer c) refl;
  inspection_refused = λ c e w. inspection_refused (whole_view c) c.page c.limits c.units w e;
  decode_answers = λ c h. decode_cases c h (decode_answer c h) refl;
  decode_refused = λ c h e w. decode_refused (whole_view c) c.limits h (length c.output) (length c.scratch) c.units w e;
  decode_invalid = λ c h w. decode_invalid (whole_view c) c.limits h (length c.output) (length c.scratch) c.units w;
  decode_leaves = λ c h e w q. rw q (refl, refl);
  read_answers = λ c. read_cases c (strict.answer c) refl;
  read_refused = λ c e w.
      let v = whole_view c in
      let cs = both_checks v c.page c.limits (length c.output) (length c.scratch) in
      Iff.trans (read_told c e w, λ q. rw q) (refused cs c.units e w);
  read_leaves = λ c e w q. rw q (refl, refl);
}

pub demand_2 : Demand2
demand_2 = record {
  inspection_accepts = λ c h w. inspection_exact (whole_view c) c.page c.limits c.units w h;
  decode_accepts = λ c h w. decode_exact (whole_view c) c.limits h (length c.output) (length c.scratch) c.units w;
  decode_shows = decode_shows;
  read_accepts = λ c h w. read_exact (whole_view c) c.page c.limits (length c.output) (length c.scratch) c.units w h;
  read_shows = read_shows;
  reading_accepts = reading_exact;
}

pub demand_3 : Demand3
demand_3 = record {
  no_influence = lost_bytes_have_no_influence;
  good_exactly = quality_good;
  good_shows = good_shows;
  others_blank = others_blank;
  good_never_blank = λ c s w answered colour x y pixel. good_never_blank c s w answered x y pixel colour;
}

-- the number of an image's answer is that of the reading
answer_number : (r : Result Reading Refused) → (answer_of r).number ≡ reading_number r
answer_number (Ok r) = refl
answer_number (Err r) = refl

pub demand_3_at_faces : Demand3AtFaces
demand_3_at_faces = record {
  c_function = λ c words words' o r. record {
    number_is = r.number_is;
    units_are = r.left_is;
    output_is = r.output_is;
    scratch_is = r.scratch_is;
    quality_is = r.quality_is;
  };
  named_form = λ c answer o r same. record {
    number_is = sym same ∙ ap (λ (a : Answer). a.number) r.answer_is ∙ answer_number (patchy.answer c);
    units_are = r.left_is;
    output_is = r.output_is;
    scratch_is = r.scratch_is;
    quality_is = r.quality_is;
  };
  number_0 = λ c o l. rw l.number_is (reading_number_lem c);
  no_influence = λ a b p q alike l m.
      let same = lost_bytes_have_no_influence a b alike in
      record {
        one_number = l.number_is ∙ ap reading_number same.answers ∙ sym m.number_is;
        one_budget = l.units_are ∙ ap reading_left same.answers ∙ sym m.units_are;
        one_quality = l.quality_is ∙ same.marks ∙ sym m.quality_is;
        one_picture = λ s w answered. rw (l.output_is, m.output_is) (same.pixels s w answered);
      };
  good_exactly = λ c o l s w answered. rw l.quality_is (quality_good c s w answered);
  good_shows = λ c o l s w answered x y b pixel byte. rw (l.quality_is, l.output_is) (λ marked. good_shows c s w answered x y pixel marked b byte);
  others_blank = λ c o l s w answered x y b pixel byte. rw (l.quality_is, l.output_is) (λ unmarked. others_blank c s w answered x y pixel unmarked b byte);
  good_never_blank = λ c o l s w answered colour x y pixel. rw (l.quality_is, l.output_is) (good_never_blank c s w answered x y pixel colour);
}
