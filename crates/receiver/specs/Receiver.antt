-- What the receiver answers to a message, what it then has, and the same for message after message.
use Rattle.std.specs.Prelude.{ℕ, ◌<◌, ◌≤◌, ◌≡◌, List, [], ◌∷◌, Bool, true, false, length, ltb, leb, eqb, Ok, Err}
use Rattle.lists.specs.Lists.{pick, put}
use Rattle.checks.specs.Numbers.{receiver_too_small, no_such_block, block_size, Verdict}
use Rattle.checks.specs.Checks.{Check, must, verdict}
use Rattle.seen.specs.Seen.{blocks_in, block_start, block_length, map_length, none_came, also_came}
use Rattle.receiver.specs.declared.Receiver.{Receiver}
use Rattle.trace.specs.Trace.{Message, start, block, trace_of}

-- the receiver's state, the file buffer and the map that it was lent
pub record Reception : Type 0 where
  pub receiver : Receiver
  pub file : List ℕ
  pub map : List ℕ

abbrev pub lent : Receiver → List ℕ → List ℕ → Reception
lent r file map = record { receiver = r; file = file; map = map }

-- a file buffer and a map of these lengths suffice for a picture of this size (rule 11.3)
abbrev pub suffices_for : ℕ → ℕ → ℕ → Bool
suffices_for size file map = pick (leb size file) (leb (map_length size) map) false

abbrev pub start_checks : ℕ → ℕ → ℕ → List Check
start_checks size file map = must (suffices_for size file map) receiver_too_small ∷ []

-- before any start there is no picture for which a buffer could be too short, and no block is in it (rules 11.3 to 11.5)
abbrev pub block_checks : Receiver → ℕ → ℕ → ℕ → ℕ → List Check
block_checks r number size file map =
    must (pick r.started (suffices_for r.length file map) true) receiver_too_small ∷
    must (pick r.started (ltb number (blocks_in r.length)) false) no_such_block ∷
    must (eqb size (block_length r.length number)) block_size ∷ []

-- the same without order: buffers of these lengths suffice for a picture of this size, and a block of such a number and size is accepted
pub record Suffice (size file map : ℕ) : Type 0 where
  pub file_holds : size ≤ file
  pub map_holds : map_length size ≤ map

pub record Admits (r : Receiver) (number size file map : ℕ) : Type 0 where
  pub is_started : r.started ≡ true
  pub suffice : Suffice r.length file map
  pub in_picture : number < blocks_in r.length
  pub size_is : size ≡ block_length r.length number

abbrev pub message_checks : Message → Reception → List Check
message_checks (start size) s = start_checks size (length s.file) (length s.map)
message_checks (block number bytes) s = block_checks s.receiver number (length bytes) (length s.file) (length s.map)

unfoldable pub answer_to : Message → Reception → Verdict
answer_to m s = verdict (message_checks m s)

-- an accepted start makes the whole map say that nothing came and leaves the bytes; an accepted block is written over what
-- stood there (rules 11.2 and 11.6)
unfoldable pub accepted : Message → Reception → Reception
accepted (start size) s = lent (record { started = true; length = size }) s.file (none_came (length s.map))
accepted (block number bytes) s = lent s.receiver (put (block_start number) bytes s.file) (also_came number s.map)

-- a refused message changes nothing (rule 11.2)
abbrev pub on_fine : {X : Type 0} → Verdict → X → X → X
on_fine (Ok u) x y = x
on_fine (Err e) x y = y

unfoldable pub received : Message → Reception → Reception
received m s = on_fine (answer_to m s) (accepted m s) s

-- message after message (rule 11.8)
unfoldable pub received_all : List Message → Reception → Reception
received_all [] s = s
received_all (m ∷ later) s = received_all later (received m s)

-- the answer to a message, and what it leaves
pub record Answers (m : Message) (s : Reception) (answer : Verdict) (s' : Reception) : Type 0 where
  pub answer_is : answer ≡ answer_to m s
  pub leaves : s' ≡ received m s

-- how a trace ends, and what its messages leave, whichever way it ends
pub record Replays (trace : List ℕ) (s : Reception) (ending : Verdict) (s' : Reception) : Type 0 where
  pub ending_is : ending ≡ (trace_of trace).ending
  pub leaves : s' ≡ received_all (trace_of trace).messages s
