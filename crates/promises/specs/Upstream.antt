-- What upstream demands of a handle before decode, in this repository's words.
use Rattle.std.specs.Prelude.{ℕ, ◌<◌, ◌≤◌, ◌≡◌}
use Rattle.seen.specs.Seen.{Seen}
use Rattle.header.specs.declared.Limits.{Limits}
use Rattle.header.specs.Header.{big_endian, first_of, HeaderFine}
use Rattle.directory.specs.Directory.{slots_at}
use Rattle.tiff.specs.Walk.{page_at}
use Rattle.front.specs.Front.{format_seen}
use Rattle.picture.specs.Inner.{Valid}
use Rattle.tiff.specs.Accepted.{WalkFine}
use Rattle.profile.specs.Accepted.{ProfileFine}
use Rattle.picture.specs.Picture.{scratch_of}
use Rattle.inspection.specs.Inspection.{work_of}
use Rattle.handle.specs.declared.Handle.{Handle}
use Rattle.promises.specs.Strict.{SegmentFine}

pub record WellFormed (v : Seen) (l : Limits) (h : Handle) : Type 0 where
  pub header : HeaderFine v
  pub directories : WalkFine v (big_endian v) l.max_tags h.page (first_of v)
  pub profile : ProfileFine v (big_endian v) (slots_at v (big_endian v) (page_at v (big_endian v) h.page (first_of v))) l
  pub format_is : h.format ≡ format_seen v h.page
  pub valid_format : Valid h.format
  pub each_segment : (k : ℕ) → k < h.format.segments → SegmentFine v h.format l.max_output k
  pub scratch_is : h.scratch ≡ scratch_of h.format
  pub scratch_small : h.scratch ≤ l.max_output
  pub work_is : h.work ≡ work_of v h.format
  pub output_within : h.format.output ≤ l.max_output
