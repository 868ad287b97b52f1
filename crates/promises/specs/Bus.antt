-- The receiver's promise as one record whose fields are its sentences, over every trace and every state (group 11 of the rules). What they speak of is
-- defined in crates/trace and crates/receiver: the messages of a trace, and the receiver as a fold over them; and, apart from both, in Since.antt beside
-- this file: what was accepted since the last accepted start. proofs/Bus.antt inhabits the record once.
use Rattle.std.specs.Prelude.{ℕ, ◌<◌, ◌≡◌, ◌↔◌, List, [], ◌∷◌, ◌++◌, false, length, Err}
use Rattle.checks.specs.Numbers.{truncated, invalid, no_such_block, no_refusal}
use Rattle.checks.specs.Exact.{RefusedAt}
use Rattle.trace.specs.Trace.{Message, start, block, trace_of, ends_with, written, Writable, written_all, EachWritable, goes_on_all}
use Rattle.receiver.specs.Receiver.{Reception, Suffice, message_checks, answer_to, received, received_all}
use Rattle.promises.specs.Since.{StartAmong, LastStart, BlockOf, CameSince, CameLast, Kept}
use Rattle.face_receiver.specs.Reception.{receiver_of, lent_words, Replay}
use Rattle.checks.specs.declared.Refusal.{Refusal}

pub record Bus : Type 0 where
  -- a trace is read as it was written, message after message
  pub written_read : (messages : List Message) → EachWritable messages → (rest : List ℕ)
      → trace_of (written_all messages ++ rest) ≡ goes_on_all messages (trace_of rest)
  -- where nothing follows it ends with 0, in a message that is cut with 1, at another first byte with 2
  pub ends : trace_of [] ≡ ends_with no_refusal
  pub cut_ends : (m : Message) → Writable m → (part missing : List ℕ) → part ++ missing ≡ written m → 0 < length part → 0 < length missing
      → trace_of part ≡ ends_with (Err truncated)
  pub foreign_ends : (byte : ℕ) (rest : List ℕ) → (byte ≡ 1 → ⊥) → (byte ≡ 2 → ⊥) → trace_of (byte ∷ rest) ≡ ends_with (Err invalid)
  -- a message is refused with the number of the first of its checks that fails, and then changes nothing
  pub refused_first : (m : Message) (s : Reception) (e : Refusal) → (answer_to m s ≡ Err e) ↔ RefusedAt (message_checks m s) 0 e 0
  pub refused_leaves : (m : Message) (s : Reception) (e : Refusal) → answer_to m s ≡ Err e → received m s ≡ s
  -- before an accepted start every block is refused with 11, and all stays as it was
  pub none_before : (s : Reception) → s.receiver.started ≡ false → (messages : List Message)
      → (StartAmong (length s.file) (length s.map) messages → ⊥) → (number : ℕ) (bytes : List ℕ)
      → (received_all messages s ≡ s) × (answer_to (block number bytes) (received_all messages s) ≡ Err no_such_block)
  -- a start is answered with 0 exactly if both buffers suffice for its picture
  pub start_accepted : (s : Reception) (size : ℕ) → (answer_to (start size) s ≡ no_refusal) ↔ Suffice size (length s.file) (length s.map)
  -- where a start is accepted there is a last one
  pub last_start : (file map : ℕ) (messages : List Message) → StartAmong file map messages → LastStart file map messages
  -- and a block is then answered with 0 exactly if it is one of that picture's, whole
  pub block_accepted : (messages : List Message) (s : Reception) (l : LastStart (length s.file) (length s.map) messages)
      → (number : ℕ) (bytes : List ℕ) → (answer_to (block number bytes) (received_all messages s) ≡ no_refusal) ↔ BlockOf l.size number bytes
  -- where a block was accepted there are bytes of it that were accepted last
  pub came_last : (size number : ℕ) (since : List Message) → CameSince size since number → (bytes : List ℕ) × CameLast size since number bytes
  -- the map has 1 exactly for the blocks accepted since the last accepted start, each holds the bytes accepted last, and every other byte of the file
  -- buffer is as it was at that start
  pub kept : (messages : List Message) (s : Reception) (l : LastStart (length s.file) (length s.map) messages)
      → Kept l.size l.since (received_all l.before s).file
      (received_all messages s).receiver (received_all messages s).file (received_all messages s).map
  -- the same of what a replay at the C face leaves
  pub kept_at_face : (file map words trace : List ℕ) (number : ℕ) (file' map' words' : List ℕ) → Replay file map words trace number file' map' words'
      → (l : LastStart (length file) (length map) (trace_of trace).messages)
      → Kept l.size l.since (received_all l.before (lent_words file map words)).file (receiver_of words') file' map'
  -- messages one after the other, in one trace or in several, call by call or replayed
  pub in_pieces : (a b : List Message) (s : Reception) → received_all (a ++ b) s ≡ received_all b (received_all a s)
