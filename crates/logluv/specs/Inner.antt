-- What only the code's own functions ask for and leave: an accepted range, and what a cursor over accepted packets still has to give.
use Rattle.std.specs.Prelude.{ℕ, ◌+◌, ◌-◌, ◌<◌, ◌≤◌, ◌≡◌, false, List, ◌∷◌, ◌++◌, length, take, drop, get_or, replicate}
use Rattle.lists.specs.Lists.{pick}
use Rattle.packets.specs.Inner.{Accepted}
use Rattle.packets.specs.Packets.{expand, part}
use Rattle.logluv.specs.declared.Cursor.{Cursor}

-- an accepted range of a file
pub record Ranged (s : List ℕ) (start count needed : ℕ) : Type 0 where
  pub from : start ≤ length s
  pub upto : count ≤ length s - start
  pub packets : Accepted (part s start count) needed

-- at the start, with no packet at hand
abbrev pub start_cursor : Cursor
start_cursor = record { at = 0; place = 0; run = 0; repeat = false }

-- what is left of the packet at hand, and the packets after it
unfoldable pub ahead : List ℕ → Cursor → List ℕ
ahead p c =
    pick c.repeat (replicate c.run (get_or p c.place 0)) (take c.run (drop c.place p)) ++ expand (drop c.at p) 0

-- a cursor whose bytes all lie in the range
pub record SoundCursor (p : List ℕ) (c : Cursor) : Type 0 where
  pub inside : c.at ≤ length p
  pub byte : 0 < c.run → c.place < length p
  pub literal : c.repeat ≡ false → c.place + c.run ≤ length p
  pub left : ℕ
  pub rest : Accepted (drop c.at p) left

-- a cursor from another: it gives the same, and stands further on
pub record Opened (p : List ℕ) (c d : Cursor) : Type 0 where
  pub sound : SoundCursor p d
  pub same : ahead p d ≡ ahead p c
  pub onward : c.at < d.at

-- a cursor from another: it gives the same, and has a byte at hand
pub record Ready (p : List ℕ) (c d : Cursor) : Type 0 where
  pub sound : SoundCursor p d
  pub same : ahead p d ≡ ahead p c
  pub some : 0 < d.run

-- a byte, and the cursor after it
pub record Stepped (p : List ℕ) (c : Cursor) (byte : ℕ) (d : Cursor) : Type 0 where
  pub sound : SoundCursor p d
  pub gives : ahead p c ≡ byte ∷ ahead p d
