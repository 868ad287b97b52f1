-- What came, in words that do not speak of the receiver's steps: the last start that was accepted, and the blocks that were accepted since.
use Rattle.std.specs.Prelude.{ℕ, ◌+◌, ◌<◌, ◌≤◌, ◌≡◌, ◌↔◌, List, ◌∷◌, ◌++◌, true, length, take, drop, get_or}
use Rattle.seen.specs.Seen.{blocks_in, block_start, block_length, block_came}
use Rattle.receiver.specs.declared.Receiver.{Receiver}
use Rattle.trace.specs.Trace.{Message, start, block}
use Rattle.receiver.specs.Receiver.{Suffice}

-- a message is among others
pub record Among (m : Message) (messages : List Message) : Type 0 where
  pub earlier : List Message
  pub later : List Message
  pub splits : messages ≡ earlier ++ (m ∷ later)

-- over a file buffer and a map of these lengths: a start that is accepted is among the messages
pub record StartAmong (file map : ℕ) (messages : List Message) : Type 0 where
  pub size : ℕ
  pub among : Among (start size) messages
  pub suffices : Suffice size file map

-- the last of them: what came before it, the size of its picture, and what came since
pub record LastStart (file map : ℕ) (messages : List Message) : Type 0 where
  pub before : List Message
  pub size : ℕ
  pub since : List Message
  pub splits : messages ≡ before ++ (start size ∷ since)
  pub suffices : Suffice size file map
  pub none_later : StartAmong file map since → ⊥

-- a block of a picture of this size, with all its bytes and no more
pub record BlockOf (size number : ℕ) (bytes : List ℕ) : Type 0 where
  pub in_picture : number < blocks_in size
  pub whole : length bytes ≡ block_length size number

-- a block was accepted, once or more often
pub record CameSince (size : ℕ) (since : List Message) (number : ℕ) : Type 0 where
  pub bytes : List ℕ
  pub among : Among (block number bytes) since
  pub accepted : BlockOf size number bytes

-- these of its bytes were accepted last
pub record CameLast (size : ℕ) (since : List Message) (number : ℕ) (bytes : List ℕ) : Type 0 where
  pub among : Among (block number bytes) since
  pub accepted : BlockOf size number bytes
  pub none_later : CameSince size among.later number → ⊥

-- a place of the file buffer lies in no block that was accepted
abbrev pub Untouched : ℕ → List Message → ℕ → Type 0
Untouched size since i =
    (number : ℕ) → CameSince size since number → block_start number ≤ i → i < block_start number + block_length size number → ⊥

-- what stands in file buffer and map after messages with an accepted start (rule 11.10): the picture is that of the last one; the map
-- has 1 exactly for the blocks accepted since, and 0 else; each of these blocks holds the bytes accepted last; every other byte of the
-- file buffer is as it was at that start
pub record Kept (size : ℕ) (since : List Message) (file-then : List ℕ) (receiver : Receiver) (file map : List ℕ) : Type 0 where
  pub picture : receiver ≡ record { started = true; length = size }
  pub marked : (number : ℕ) → (block_came map number ≡ true) ↔ CameSince size since number
  pub unmarked : (number : ℕ) → (CameSince size since number → ⊥) → get_or map number 0 ≡ 0
  pub holds : (number : ℕ) (bytes : List ℕ) → CameLast size since number bytes → take (length bytes) (drop (block_start number) file) ≡ bytes
  pub else_kept : (i : ℕ) → Untouched size since i → get_or file i 0 ≡ get_or file-then i 0
