-- A recorded trace: the messages of the bus, one after the other, and how it ends.
use Rattle.std.specs.Prelude.{ℕ, zero, suc, ◌+◌, ◌-◌, ◌^◌, ◌<◌, List, [], ◌∷◌, ◌++◌, length, take, drop, ltb, eqb, Err}
use Rattle.lists.specs.Lists.{pick}
use Rattle.checks.specs.Numbers.{truncated, invalid, Verdict, no_refusal}
use Rattle.words64.specs.Words64.{number_from, digits}
use Rattle.trace.specs.declared.Next.{Next}
use Rattle.trace.specs.declared.Next.TheVariants as NextIs

-- a picture of so many bytes begins, or a block comes: its number and its bytes
pub data Message : Type 0 where
  start : ℕ → Message
  block : ℕ → List ℕ → Message

-- a start after its first byte: a length of eight bytes
abbrev pub start_in : List ℕ → Next
start_in rest = pick (ltb (length rest) 8) NextIs.Cut (NextIs.Start (number_from (take 8 rest)))

-- a block after its first byte: a number of eight bytes, a size of two, and so many bytes
abbrev pub size_in : List ℕ → ℕ
size_in rest = number_from (take 2 (drop 8 rest))

abbrev pub block_in : List ℕ → Next
block_in rest =
    pick
    (ltb (length rest) 10)
    NextIs.Cut
    (pick (ltb (length rest - 10) (size_in rest)) NextIs.Cut (NextIs.Block (number_from (take 8 rest)) (size_in rest)))

-- what a trace begins with (rule 11.7)
unfoldable pub next_of : List ℕ → Next
next_of [] = NextIs.Over
next_of (kind ∷ rest) = pick (eqb kind 1) (start_in rest) (pick (eqb kind 2) (block_in rest) NextIs.Foreign)

-- its messages, and how it ends: 0, or 1 for a message that is cut, or 2 for another first byte
pub record Trace : Type 0 where
  pub messages : List Message
  pub ending : Verdict

abbrev pub ends_with : Verdict → Trace
ends_with v = record { messages = []; ending = v }

abbrev pub goes_on : Message → Trace → Trace
goes_on m later = record { messages = m ∷ later.messages; ending = later.ending }

-- a trace by what it begins with, from what follows its first byte and from the trace after its first message
abbrev pub begins_with : Next → List ℕ → Trace → Trace
begins_with NextIs.Over rest later = ends_with no_refusal
begins_with NextIs.Cut rest later = ends_with (Err truncated)
begins_with NextIs.Foreign rest later = ends_with (Err invalid)
begins_with (NextIs.Start size) rest later = goes_on (start size) later
begins_with (NextIs.Block number size) rest later = goes_on (block number (take size (drop 10 rest))) later

-- how many bytes a message has after its first one
abbrev pub length_of : Next → ℕ
length_of NextIs.Over = 0
length_of NextIs.Cut = 0
length_of NextIs.Foreign = 0
length_of (NextIs.Start size) = 8
length_of (NextIs.Block number size) = 10 + size

-- the first `skip` bytes belong to the message before
unfoldable pub trace_from : List ℕ → ℕ → Trace
trace_from [] skip = ends_with no_refusal
trace_from (byte ∷ rest) (suc skip) = trace_from rest skip
trace_from (byte ∷ rest) zero = begins_with (next_of (byte ∷ rest)) rest (trace_from rest (length_of (next_of (byte ∷ rest))))

-- the whole trace, in one pass (rules 11.7 and 11.8)
abbrev pub trace_of : List ℕ → Trace
trace_of bytes = trace_from bytes 0

-- the bytes of a message, as the recorder writes them: a byte 1 or 2, numbers with the least significant byte first (rule 11.7)
abbrev pub written : Message → List ℕ
written (start size) = 1 ∷ digits 8 size
written (block number bytes) = 2 ∷ (digits 8 number ++ (digits 2 (length bytes) ++ bytes))

-- length and number have eight bytes, the size two
abbrev pub Writable : Message → Type 0
Writable (start size) = size < 2 ^ 64
Writable (block number bytes) = (number < 2 ^ 64) × (length bytes < 65536)

-- messages one after the other
unfoldable pub written_all : List Message → List ℕ
written_all [] = []
written_all (m ∷ later) = written m ++ written_all later

unfoldable pub EachWritable : List Message → Type 0
EachWritable [] = Unit
EachWritable (m ∷ later) = Writable m × EachWritable later

-- a trace that begins with these messages
abbrev pub goes_on_all : List Message → Trace → Trace
goes_on_all messages later = record { messages = messages ++ later.messages; ending = later.ending }
