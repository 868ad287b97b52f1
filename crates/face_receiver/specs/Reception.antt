-- The calls of the C face over a receiver: its state as words, what each call answers, and what it leaves in what it was lent.
use Rattle.std.specs.Prelude.{ℕ, ◌≡◌, List, [], ◌∷◌, get_or, eqb}
use Rattle.lists.specs.Lists.{pick}
use Rattle.checks.specs.Numbers.{verdict_number, Verdict}
use Rattle.trace.specs.Trace.{Message, trace_of}
use Rattle.receiver.specs.Receiver.{Reception, lent, answer_to, received, received_all}
use Rattle.receiver.specs.declared.Receiver.{Receiver}

-- a first word of 1 says that a start was accepted, anything else that none was; the second is the picture's length (rule 11.9)
abbrev pub receiver_of : List ℕ → Receiver
receiver_of words = record { started = eqb (get_or words 0 0) 1; length = get_or words 1 0 }

-- the words of a receiver that has a start; before one they stay as they were
abbrev pub receiver_words : Receiver → List ℕ → List ℕ
receiver_words r old = pick r.started (1 ∷ r.length ∷ []) old

-- what a call answers and leaves: the number of its answer, and the file buffer, the map and the words of what is then received
pub record ReceiverCall (words : List ℕ) (answer : Verdict) (after : Reception) (number : ℕ) (file' map' words' : List ℕ) : Type 0 where
  pub number_is : number ≡ verdict_number answer
  pub file_is : file' ≡ after.file
  pub map_is : map' ≡ after.map
  pub words_are : words' ≡ receiver_words after.receiver words

module _ (file map words : List ℕ) where
  abbrev pub lent_words : Reception
  lent_words = lent (receiver_of words) file map

  -- a call with one message, and one with a trace
  abbrev pub Receive : Message → ℕ → List ℕ → List ℕ → List ℕ → Type 0
  Receive m = ReceiverCall words (answer_to m lent_words) (received m lent_words)

  abbrev pub Replay : List ℕ → ℕ → List ℕ → List ℕ → List ℕ → Type 0
  Replay trace = ReceiverCall words (trace_of trace).ending (received_all (trace_of trace).messages lent_words)
