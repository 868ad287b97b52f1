-- What an inspection answers, and when two handles are equal.
use Rattle.std.specs.Prelude.{ℕ, Bool, false, not, ◌&&◌, eqb, Result, Ok, Err}
use Rattle.lists.specs.Lists.{pick}
use Rattle.checks.specs.Numbers.{Told, told_number}
use Rattle.checks.specs.Checks.{giving_left}
use Rattle.checks.specs.declared.Refused.{Refused}
use Rattle.picture.specs.declared.Format.{Format}
use Rattle.handle.specs.declared.Handle.{Handle}
use Rattle.handle.specs.declared.Inspected.{Inspected}

-- a picture's handle, with so many units left
abbrev pub inspected_with : Handle → ℕ → Inspected
inspected_with h u = record { handle = h; left = u }

-- the answer of checks that give this handle where they pass
abbrev pub inspected : Told → Handle → Result Inspected Refused
inspected t h = giving_left t (inspected_with h)

-- the number of an answer, 0 where it is a picture, and the units left
abbrev pub inspected_number : Result Inspected Refused → ℕ
inspected_number r = told_number r

abbrev pub inspected_left : Result Inspected Refused → ℕ
inspected_left (Ok i) = i.left
inspected_left (Err r) = r.left

-- what stands beside an answer: one thing where it is a picture, another after a refusal
abbrev pub on_inspected : {X : Type 0} → Result Inspected Refused → X → X → X
on_inspected (Ok i) x y = x
on_inspected (Err r) x y = y

-- equal in every field (rule 7.4)
abbrev pub same_bool : Bool → Bool → Bool
same_bool a b = pick a b (not b)

unfoldable pub same_sides : Format → Format → Bool
same_sides f g =
    eqb f.width g.width
    && eqb f.height g.height
    && eqb f.block_width g.block_width
    && eqb f.block_height g.block_height

unfoldable pub same_cut : Format → Format → Bool
same_cut f g = same_bool f.tiled g.tiled && eqb f.across g.across && eqb f.segments g.segments && eqb f.output g.output

unfoldable pub same_entries : Format → Format → Bool
same_entries f g = same_bool f.big g.big && eqb f.offsets g.offsets && eqb f.counts g.counts && eqb f.entries g.entries

unfoldable pub same_format : Format → Format → Bool
same_format f g = same_sides f g && same_cut f g && same_entries f g && same_bool f.mono g.mono

unfoldable pub same_handle : Handle → Handle → Bool
same_handle g h = same_format g.format h.format && eqb g.page h.page && eqb g.scratch h.scratch && eqb g.work h.work

-- an answer gives a handle where it is a picture with that handle
abbrev pub gives : Result Inspected Refused → Handle → Bool
gives (Ok i) h = same_handle i.handle h
gives (Err r) h = false
