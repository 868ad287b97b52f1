-- The answers of the receiver as numbers, and its state as words.
use Prim.Native.Nat.{ℕ}
use mathlib.Core.Path.{◌≡◌, ap, ◌∙◌}
use mathlib.Core.Bool.{true, false}
use mathlib.Core.List.{List, [], ◌∷◌}
use borrow.Author.Rules.{rules}
use Rattle.checks.specs.Numbers.{verdict_number, Verdict}
use Rattle.trace.specs.Trace.{Message}
use Rattle.receiver.specs.Receiver.{Reception, lent, Answers, Replays}
use Rattle.receiver.specs.declared.Receiver.{Receiver}
use Rattle.face_receiver.specs.Reception.{receiver_of, receiver_words, ReceiverCall, lent_words, Receive, Replay}

module _ (r : Receiver) (old : List ℕ) where
  pub kept : r.started ≡ true → 1 ∷ r.length ∷ [] ≡ receiver_words r old
  kept e = rw e

  pub kept_none : r.started ≡ false → old ≡ receiver_words r old
  kept_none e = rw e

pub ruleset keeping = (kept, kept_none, rules)

-- a call, from what the receiver answered and left
called : (words : List ℕ) {v : Verdict} {r : Receiver} {answer : Verdict} {after : Reception} (number : ℕ) (file' map' words' : List ℕ)
    → number ≡ verdict_number v → words' ≡ receiver_words r words → v ≡ answer → lent r file' map' ≡ after
    → ReceiverCall words answer after number file' map' words'
called words number file' map' words' en ew ea el = record {
  number_is = en ∙ ap verdict_number ea;
  file_is = ap (λ (s : Reception). s.file) el;
  map_is = ap (λ (s : Reception). s.map) el;
  words_are = ew ∙ ap (λ (s : Reception). receiver_words s.receiver words) el;
}

module _
    (file map words file' map' words' : List ℕ)
    (r : Receiver)
    {a : Receiver}
    (ea : a ≡ receiver_of words)
    {v : Verdict}
    (number : ℕ)
    (en : number ≡ verdict_number v)
    (ew : words' ≡ receiver_words r words)
  where
    pub message_answered : (m : Message) → Answers m (lent a file map) v (lent r file' map') → Receive file map words m number file' map' words'
    message_answered m x =
        let y : Answers m (lent_words file map words) v (lent r file' map') = rw ea at x in
        called words number file' map' words' en ew y.answer_is y.leaves

    pub trace_answered : (trace : List ℕ) → Replays trace (lent a file map) v (lent r file' map')
        → Replay file map words trace number file' map' words'
    trace_answered trace x =
        let y : Replays trace (lent_words file map words) v (lent r file' map') = rw ea at x in
        called words number file' map' words' en ew y.ending_is y.leaves

pub ruleset answering = (message_answered, trace_answered, rules)
