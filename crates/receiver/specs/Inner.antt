-- What only the code's own functions ask for and leave: a block's place in the file buffer and in the map.
use Rattle.std.specs.Prelude.{ℕ, ◌+◌, ◌<◌, ◌≤◌, ◌≡◌, List}
use Rattle.lists.specs.Lists.{put}
use Rattle.seen.specs.Seen.{block_start, also_came}

-- so many bytes of a block lie in a file buffer, and the block has its place in a map
pub record HasPlace (number size file map : ℕ) : Type 0 where
  pub bytes_in : block_start number + size ≤ file
  pub mark_in : number < map

-- the block's bytes stand in the file buffer, and the map says that it came
pub record Placed (number : ℕ) (bytes file map file' map' : List ℕ) : Type 0 where
  pub file_is : file' ≡ put (block_start number) bytes file
  pub map_is : map' ≡ also_came number map
