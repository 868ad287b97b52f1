-- What only the code's own functions ask for and leave: what is true of every format that the profile gives, and a segment's visible part.
use Rattle.std.specs.Prelude.{ℕ, ◌+◌, ◌-◌, ◌*◌, ◌/◌, ◌%◌, ◌<◌, ◌≤◌, ◌≡◌, false}
use Rattle.lists.specs.Lists.{lesser}
use Rattle.head.specs.Heads.{bytes_of}
use Rattle.seen.specs.Seen.{Seen, There}
use Rattle.geometry.specs.Geometry.{pieces, most_side}
use Rattle.entries.specs.Values.{count_at}
use Rattle.picture.specs.declared.Format.{Format}
use Rattle.picture.specs.declared.Visible.{Visible}

-- its sizes
pub record Valid (f : Format) : Type 0 where
  pub some_width : 0 < f.width
  pub some_height : 0 < f.height
  pub strip_width : f.tiled ≡ false → f.block_width ≡ f.width
  pub strip_height : f.tiled ≡ false → f.block_height ≤ f.height
  pub some_block_width : 0 < f.block_width
  pub block_width_allowed : f.block_width ≤ most_side
  pub some_block_height : 0 < f.block_height
  pub block_height_allowed : f.block_height ≤ most_side
  pub across_is : f.across ≡ pieces f.width f.block_width
  pub segments_are : f.segments ≡ f.across * pieces f.height f.block_height
  pub output_is : f.output ≡ bytes_of f.mono * (f.width * f.height)

-- and its two entries, with an offset and a count for each segment
pub record Readable (v : Seen) (f : Format) : Type 0 where
  pub valid : Valid f
  pub offsets_there : There v f.offsets 12
  pub an_offset_each : count_at v f.big f.offsets ≡ f.segments
  pub counts_there : There v f.counts 12
  pub a_count_each : count_at v f.big f.counts ≡ f.segments

-- the column and the row of the picture that segment k begins with
abbrev pub left_of : Format → ℕ → ℕ
left_of f k = k % f.across * f.block_width

abbrev pub top_of : Format → ℕ → ℕ
top_of f k = k / f.across * f.block_height

-- the part of it that lies in the picture: its columns and rows, and the output byte that it begins with
unfoldable pub visible_of : Format → ℕ → Visible
visible_of f k = record {
  columns = lesser (f.width - left_of f k) f.block_width;
  rows = lesser (f.height - top_of f k) f.block_height;
  first = bytes_of f.mono * (top_of f k * f.width + left_of f k);
}
