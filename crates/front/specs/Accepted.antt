-- The front part without order: what is true of a page exactly if every check of it holds, and what it charges.
use Rattle.std.specs.Prelude.{ℕ, ◌+◌, ◌-◌, ◌≤◌, ◌≡◌}
use Rattle.seen.specs.Seen.{Seen}
use Rattle.header.specs.Header.{big_endian, first_of, HeaderFine}
use Rattle.header.specs.declared.Limits.{Limits}
use Rattle.tiff.specs.Accepted.{WalkFine, walk_fee}
use Rattle.profile.specs.Accepted.{ProfileFine}
use Rattle.front.specs.Front.{profile_fee, slots_seen}

-- what the front part charges: the directories, and 128 for the profile (rules 5.1 and 5.2)
abbrev pub front_fee : Seen → ℕ → ℕ
front_fee v page = walk_fee v (big_endian v) page (first_of v) + profile_fee

-- of a file as seen, with u units at hand and w left
pub record FrontFine (v : Seen) (page : ℕ) (l : Limits) (u w : ℕ) : Type 0 where
  pub header : HeaderFine v
  pub directories : WalkFine v (big_endian v) l.max_tags page (first_of v)
  pub profile : ProfileFine v (big_endian v) (slots_seen v page) l
  pub covered : front_fee v page ≤ u
  pub rest : w ≡ u - front_fee v page
