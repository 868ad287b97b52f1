-- The receiver's promise is met: the record of specs/Bus.antt, inhabited once.
use Prim.Native.Nat.{ℕ}
use mathlib.Core.Path.{◌≡◌, refl, sym, ap, ◌∙◌}
use mathlib.Core.Logic.{◌↔◌}
use mathlib.Core.List.{List}
use lib.ListN.{length}
use Rattle.checks.specs.Checks.{cost}
use Rattle.checks.specs.Exact.{RefusedAt}
use Rattle.checks.proofs.Exact.{refused_passed}
use Rattle.checks.proofs.Refusals.{refused_free}
use Rattle.receiver.specs.declared.Receiver.{Receiver}
use Rattle.trace.specs.Trace.{Message, start, block, trace_of}
use Rattle.receiver.specs.Receiver.{Reception, message_checks, answer_to, received_all}
use Rattle.promises.specs.Since.{LastStart, Kept}
use Rattle.receiver.proofs.Receiving.{start_accepted, refused_leaves}
use Rattle.promises.proofs.Since.{received_append, last_start, next_accepted, came_last, kept, block_before, idle_all}
use Rattle.trace.proofs.Written.{nothing_written, all_written, cut_written, foreign_byte}
use Rattle.face_receiver.specs.Reception.{receiver_of, receiver_words, lent_words, Replay}
use Rattle.promises.specs.Bus.{Bus}
use Rattle.std.specs.Prelude.{Err}
use Rattle.checks.specs.declared.Refusal.{Refusal}

no_charge : (m : Message) (s : Reception) → cost (message_checks m s) ≡ 0
unfolding cost
no_charge (start size) s = refl
no_charge (block number bytes) s = refl

refused_first : (m : Message) (s : Reception) (e : Refusal) → (answer_to m s ≡ Err e) ↔ RefusedAt (message_checks m s) 0 e 0
unfolding answer_to
refused_first m s e = refused_free (message_checks m s) e (no_charge m s)

-- the words that a replay leaves are those of the picture's receiver
kept_at_face : (file map words trace : List ℕ) (number : ℕ) (file' map' words' : List ℕ) → Replay file map words trace number file' map' words'
    → (l : LastStart (length file) (length map) (trace_of trace).messages)
    → Kept l.size l.since (received_all l.before (lent_words file map words)).file (receiver_of words') file' map'
kept_at_face file map words trace number file' map' words' r l =
    let k = kept (trace_of trace).messages (lent_words file map words) l in
    let w : receiver_of words' ≡ (received_all (trace_of trace).messages (lent_words file map words)).receiver =
    ap receiver_of (r.words_are ∙ ap (λ (x : Receiver). receiver_words x words) k.picture) ∙ sym k.picture in
    rw (w, r.file_is, r.map_is) k

pub bus : Bus
bus = record {
  written_read = all_written;
  ends = nothing_written;
  cut_ends = cut_written;
  foreign_ends = foreign_byte;
  refused_first = refused_first;
  refused_leaves = λ m s e q. refused_leaves m s (λ f. refused_passed e tt (sym q ∙ f));
  none_before = λ s idle messages none number bytes.
      let same = idle_all s idle messages none in
      (same, ap (answer_to (block number bytes)) same ∙ block_before s idle number bytes);
  start_accepted = start_accepted;
  last_start = last_start;
  block_accepted = next_accepted;
  came_last = came_last;
  kept = kept;
  kept_at_face = kept_at_face;
  in_pieces = received_append;
}
