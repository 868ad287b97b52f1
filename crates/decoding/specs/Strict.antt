-- Strict reading: the checks of decode, those of inspection and decode in one call, and what they leave in the lent buffers.
use Rattle.std.specs.Prelude.{ℕ, List, [], ◌∷◌, ◌++◌, leb, length, replicate, Result}
use Rattle.lists.specs.Lists.{overlay}
use Rattle.checks.specs.Numbers.{invalid, output_too_small, Told}
use Rattle.checks.specs.Checks.{Check, must, pay, run, on_pass}
use Rattle.seen.specs.Seen.{Seen}
use Rattle.header.specs.declared.Limits.{Limits}
use Rattle.picture.specs.declared.Format.{Format}
use Rattle.showing.specs.Shown.{shown}
use Rattle.picture.specs.Picture.{picture_of}
use Rattle.handle.specs.Handle.{inspected, on_inspected}
use Rattle.handle.specs.declared.Handle.{Handle}
use Rattle.handle.specs.declared.Inspected.{Inspected}
use Rattle.checks.specs.declared.Refused.{Refused}
use Rattle.inspection.specs.Inspection.{handle_of, inspect_checks, is_handle}

-- the buffers, the charge (rule 7.4)
abbrev pub show_checks : Handle → ℕ → ℕ → List Check
show_checks h output scratch =
    must (leb h.format.output output) output_too_small ∷
    must (leb h.scratch scratch) output_too_small ∷
    pay h.work ∷ []

-- the handle, then these (rule 7.4)
abbrev pub decode_checks : Seen → Limits → Handle → ℕ → ℕ → List Check
decode_checks v l h output scratch = must (is_handle v l h) invalid ∷ show_checks h output scratch

-- what they answer, with buffers of these contents
abbrev pub decoded_of : Seen → Limits → Handle → List ℕ → List ℕ → ℕ → Told
decoded_of v l h output scratch left = run (decode_checks v l h (length output) (length scratch)) left

-- inspection, then decode of what it gives (rule 7.6)
module _ (v : Seen) where
  unfoldable pub both_checks : ℕ → Limits → ℕ → ℕ → List Check
  both_checks page l output scratch = inspect_checks v page l ++ show_checks (handle_of v page) output scratch

  abbrev pub both_of : ℕ → Limits → ℕ → ℕ → ℕ → Result Inspected Refused
  both_of page l output scratch left = inspected (run (both_checks page l output scratch) left) (handle_of v page)

-- the picture of a format over what stood in a buffer, which stays after it
abbrev pub decoded_over : Seen → Format → List ℕ → List ℕ
decoded_over v f old = overlay (picture_of f (shown v f)) old

-- the two buffers after a handle's picture is shown, each as it was before (rule 7.5)
abbrev pub picture_over : Seen → Handle → List ℕ → List ℕ
picture_over v h old = decoded_over v h.format old

abbrev pub cleared_over : Handle → List ℕ → List ℕ
cleared_over h old = overlay (replicate h.scratch 0) old

-- decode of a handle: a refusal leaves both (rule 1.3)
abbrev pub output_decoded : Seen → Handle → Told → List ℕ → List ℕ
output_decoded v h t old = on_pass t (picture_over v h old) old

abbrev pub scratch_decoded : Handle → Told → List ℕ → List ℕ
scratch_decoded h t old = on_pass t (cleared_over h old) old

-- both in one call: likewise
abbrev pub output_read : Seen → ℕ → Result Inspected Refused → List ℕ → List ℕ
output_read v page r old = on_inspected r (picture_over v (handle_of v page) old) old

abbrev pub scratch_read : Seen → ℕ → Result Inspected Refused → List ℕ → List ℕ
scratch_read v page r old = on_inspected r (cleared_over (handle_of v page) old) old
