-- What is left of a buffer into which bytes were written at a place, and where they end.
use Rattle.std.specs.Prelude.{ℕ, ◌+◌, ◌≤◌, ◌≡◌, List, length}
use Rattle.lists.specs.Lists.{put}

-- new bytes stand in a buffer from a place on, up to their end, and all else is as it was
pub record BytesPlaced (new : List ℕ) (start : ℕ) (old : List ℕ) (end : ℕ) (out : List ℕ) : Type 0 where
  pub ends : end ≡ start + length new
  pub within : end ≤ length out
  pub bytes : out ≡ put start new old
