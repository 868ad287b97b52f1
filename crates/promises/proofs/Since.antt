-- What the receiver's steps come to: the map has the blocks accepted since the last accepted start, and the file buffer their bytes.
use Prim.Native.Nat.{ℕ, ◌+◌, ◌-◌, ◌<◌, ◌≤◌}
use mathlib.Core.Path.{◌≡◌, refl, sym, ap, subst, ◌∙◌}
use mathlib.Core.Logic.{◌↔◌, ◌⊎◌, inl, inr, ⊎_elim}
use mathlib.Core.List.{List, [], ◌∷◌, ◌++◌, append_assoc}
use mathlib.Core.Bool.{Bool, true, false}
use native.Mathlib.Omega.{arith}
use lib.ListN.{length, take, drop, get_or, length-append, length-replicate, length-drop}
use lib.Seq.{ext_get_or, get_or-take, get_or-drop, length-take-le}
use lib.Dec.{ltb, eqb}
use borrow.Author.Tests.{ltb-true, ltb-false, eqb-true, eqb-false}
use Rattle.lists.specs.Lists.{put}
use Rattle.lists.proofs.Lesser.{lesser_min}
use Rattle.lists.proofs.Overlay.{only_zeros}
use Rattle.lists.proofs.Spread.{put_length, put_in, put_before, put_after}
use Rattle.checks.specs.Numbers.{no_such_block, Verdict, no_refusal}
use Rattle.checks.proofs.Exact.{refused_passed}
use Rattle.seen.specs.Seen.{blocks_in, block_start, block_length, block_came, also_came, none_came}
use Rattle.seen.proofs.Blocks.{true_false}
use Rattle.seen.proofs.Arrivals.{also_length, also_came_lem, also_byte, also_other, none_came_lem}
use Rattle.receiver.specs.declared.Receiver.{Receiver}
use Rattle.trace.specs.Trace.{Message, start, block}
use Rattle.receiver.specs.Receiver.{Reception, lent, suffices_for, Suffice, Admits, answer_to, accepted, received, received_all}
use Rattle.promises.specs.Since.{Among, StartAmong, LastStart, BlockOf, CameSince, CameLast, Untouched, Kept}
use Rattle.receiver.proofs.Receiving.{suffices_exact, before_start, admitted_place, fine_takes, refused_leaves, start_accepted, block_accepted}
use Rattle.std.specs.Prelude.{Ok, Err}

-- messages one after the other
pub received_append : (a b : List Message) (s : Reception) → received_all (a ++ b) s ≡ received_all b (received_all a s)
unfolding received_all
received_append [] b s = refl
received_append (m ∷ a) b s = received_append a b (received m s)

-- a message among those behind another, and the first
among_later : (m x : Message) (rest : List Message) → Among m rest → Among m (x ∷ rest)
among_later m x rest a = record { earlier = x ∷ a.earlier; later = a.later; splits = ap (λ (l : List Message). x ∷ l) a.splits }

among_first : (m : Message) (rest : List Message) → Among m (m ∷ rest)
among_first m rest = record { earlier = []; later = rest; splits = refl }

-- in front of others, and behind a front
among_front : (m : Message) (front rest : List Message) → Among m front → Among m (front ++ rest)
among_front m front rest a = record {
  earlier = a.earlier;
  later = a.later ++ rest;
  splits = ap (λ (l : List Message). l ++ rest) a.splits ∙ append_assoc a.earlier (m ∷ a.later) rest;
}

among_behind : (m x : Message) (front rest : List Message) → Among m rest → Among m (front ++ (x ∷ rest))
among_behind m x front rest a = record {
  earlier = front ++ (x ∷ a.earlier);
  later = a.later;
  splits =
      ap (λ (l : List Message). front ++ (x ∷ l)) a.splits
      ∙ sym (append_assoc front (x ∷ a.earlier) (m ∷ a.later));
}

-- a message among others is the first of them, or behind it
among_none : (m : Message) → Among m [] → ⊥
among_none m a = omega (arith, ap length a.splits, length-append a.earlier (m ∷ a.later))

among_first_or_later : (m x : Message) (rest : List Message) → Among m (x ∷ rest) → (x ≡ m) ⊎ Among m rest
among_first_or_later m x rest a = by a.earlier a.splits
  where
    by : (earlier : List Message) → x ∷ rest ≡ earlier ++ (m ∷ a.later) → (x ≡ m) ⊎ Among m rest
    by [] e = inl cc
    by (y ∷ ys) e = let t : rest ≡ ys ++ (m ∷ a.later) = cc in inr (record { earlier = ys; later = a.later; splits = t })

start_later : (file map : ℕ) (x : Message) (rest : List Message) → StartAmong file map rest → StartAmong file map (x ∷ rest)
start_later file map x rest a = record { size = a.size; among = among_later _ x rest a.among; suffices = a.suffices }

came_later : (size : ℕ) (x : Message) (rest : List Message) (b : ℕ) → CameSince size rest b → CameSince size (x ∷ rest) b
came_later size x rest b c = record { bytes = c.bytes; among = among_later _ x rest c.among; accepted = c.accepted }

came_first : (size b : ℕ) (bytes : List ℕ) (rest : List Message) → BlockOf size b bytes → CameSince size (block b bytes ∷ rest) b
came_first size b bytes rest w = record { bytes = bytes; among = among_first _ rest; accepted = w }

-- a receiver in a picture: its state, and the lengths of its buffers
pub record During (size file map : ℕ) (s : Reception) : Type 0 where
  pub state_is : s.receiver ≡ record { started = true; length = size }
  pub file_long : length s.file ≡ file
  pub map_long : length s.map ≡ map

-- one message: it leaves all as it was, or it is an accepted block, which is put
data Step (size : ℕ) (s : Reception) : Message → Type 0 where
  nothing : (m : Message) → received m s ≡ s → Step size s m
  placed : (b : ℕ) (bytes : List ℕ) → BlockOf size b bytes
      → received (block b bytes) s ≡ lent s.receiver (put (block_start b) bytes s.file) (also_came b s.map) → Step size s (block b bytes)

-- the messages of a picture: buffers suffice, and no other start is accepted
module _ (size file map : ℕ) (fit : Suffice size file map) where
  abbrev Quiet : List Message → Type 0
  Quiet messages = StartAmong file map messages → ⊥

  quiet_rest : (m : Message) (rest : List Message) → Quiet (m ∷ rest) → Quiet rest
  quiet_rest m rest q a = q (start_later file map m rest a)

  module _ (s : Reception) (d : During size file map s) where
    -- an accepted block has its place
    bytes_in : (b : ℕ) (bytes : List ℕ) → BlockOf size b bytes → block_start b + length bytes ≤ length s.file
    bytes_in b bytes w = omega (arith, fit.file_holds, w.in_picture, w.whole, d.file_long, lesser_min 512 (size - block_start b))

    mark_in : (b : ℕ) (bytes : List ℕ) → BlockOf size b bytes → b < length s.map
    mark_in b bytes w = omega (arith, fit.map_holds, w.in_picture, d.map_long)

    admitted : (b : ℕ) (bytes : List ℕ) → Admits s.receiver b (length bytes) (length s.file) (length s.map) ↔ BlockOf size b bytes
    admitted b bytes = (
      λ a. let e : s.receiver.length ≡ size = ap (λ (r : Receiver). r.length) d.state_is in
          record { in_picture = rw e at a.in_picture; whole = omega (arith, rw e at a.size_is) },
      λ w. record {
        is_started = ap (λ (r : Receiver). r.started) d.state_is;
        suffice = rw (d.state_is, d.file_long, d.map_long) fit;
        in_picture = rw d.state_is w.in_picture;
        size_is = rw d.state_is (omega (arith, w.whole));
      },
    )

    pub block_answered : (b : ℕ) (bytes : List ℕ) → (answer_to (block b bytes) s ≡ no_refusal) ↔ BlockOf size b bytes
    block_answered b bytes =
        (λ e. (admitted b bytes).0 ((block_accepted s b bytes).0 e), λ w. (block_accepted s b bytes).1 ((admitted b bytes).1 w))

    step : (m : Message) (rest : List Message) → Quiet (m ∷ rest) → Step size s m
    unfolding accepted
    step (start n) rest q =
        nothing (start n)
        (refused_leaves (start n) s
        (λ e. q (record {
          size = n;
          among = among_first (start n) rest;
          suffices = rw (d.file_long, d.map_long) at ((start_accepted s n).0 e);
        })))
    step (block b bytes) rest q = by (answer_to (block b bytes) s) refl
      where
        by : (v : Verdict) → answer_to (block b bytes) s ≡ v → Step size s (block b bytes)
        by (Ok x) e = placed b bytes ((block_answered b bytes).0 e) (fine_takes (block b bytes) s e)
        by (Err n) e = nothing (block b bytes) (refused_leaves (block b bytes) s (λ f. refused_passed n tt (sym e ∙ f)))

    during_next : (m : Message) → Step size s m → During size file map (received m s)
    during_next _ (nothing m e) = rw e d
    during_next _ (placed b bytes w e) = rw e (record {
      state_is = d.state_is;
      file_long = put_length (block_start b) bytes s.file (bytes_in b bytes w) ∙ d.file_long;
      map_long = also_length b s.map ∙ d.map_long;
    })

    -- what one message does to a byte of the file buffer, and to the map
    byte_step_lem : (m : Message) (rest : List Message) (i : ℕ) → Step size s m → Untouched size (m ∷ rest) i
        → get_or (received m s).file i 0 ≡ get_or s.file i 0
    byte_step_lem _ rest i (nothing m e) u = rw e
    byte_step_lem _ rest i (placed b bytes w e) u = rw e (by (ltb i (block_start b)) refl)
      where
        by : (t : Bool) → ltb i (block_start b) ≡ t → get_or (put (block_start b) bytes s.file) i 0 ≡ get_or s.file i 0
        by true t = put_before (block_start b) bytes s.file (bytes_in b bytes w) i (ltb-true i (block_start b) t)
        by false t = past (ltb i (block_start b + length bytes)) refl
          where
            past : (f : Bool) → ltb i (block_start b + length bytes) ≡ f → get_or (put (block_start b) bytes s.file) i 0 ≡ get_or s.file i 0
            past true f =
                absurd
                (u b (came_first size b bytes rest w) (ltb-false i (block_start b) t)
                (rw w.whole at (ltb-true i (block_start b + length bytes) f)))
            past false f = put_after (block_start b) bytes s.file (bytes_in b bytes w) i (ltb-false i (block_start b + length bytes) f)

    zero_step : (m : Message) (rest : List Message) (b : ℕ) → Step size s m → (CameSince size (m ∷ rest) b → ⊥)
        → get_or (received m s).map b 0 ≡ get_or s.map b 0
    zero_step _ rest b (nothing m e) u = rw e
    zero_step _ rest b (placed c bytes w e) u = rw e (also_byte c s.map b (λ q. u (rw q (came_first size c bytes rest w))))

    mark_step : (m : Message) (b : ℕ) → Step size s m → block_came s.map b ≡ true → block_came (received m s).map b ≡ true
    mark_step _ b (nothing m e) h = rw e h
    mark_step _ b (placed c bytes w e) h = rw e (by (eqb b c) refl)
      where
        by : (t : Bool) → eqb b c ≡ t → block_came (also_came c s.map) b ≡ true
        by true t = rw (eqb-true b c t) (also_came_lem c s.map (mark_in c bytes w))
        by false t = also_other c s.map b (eqb-false b c t) ∙ h

    marked_step : (m : Message) (rest : List Message) (b : ℕ) → Step size s m → block_came (received m s).map b ≡ true
        → CameSince size (m ∷ rest) b ⊎ (block_came s.map b ≡ true)
    marked_step _ rest b (nothing m e) h = inr (rw e at h)
    marked_step _ rest b (placed c bytes w e) h = by (eqb b c) refl
      where
        by : (t : Bool) → eqb b c ≡ t → CameSince size (block c bytes ∷ rest) b ⊎ (block_came s.map b ≡ true)
        by true t = inl (rw (eqb-true b c t) (came_first size c bytes rest w))
        by false t = inr (sym (also_other c s.map b (eqb-false b c t)) ∙ rw e at h)

  -- the same, message after message
  during_all : (messages : List Message) → Quiet messages → (s : Reception) → During size file map s → During size file map (received_all messages s)
  unfolding received_all
  during_all [] q s d = d
  during_all (m ∷ rest) q s d = during_all rest (quiet_rest m rest q) (received m s) (during_next s d m (step s d m rest q))

  byte_all : (messages : List Message) → Quiet messages → (s : Reception) → During size file map s → (i : ℕ) → Untouched size messages i
      → get_or (received_all messages s).file i 0 ≡ get_or s.file i 0
  unfolding received_all
  byte_all [] q s d i u = refl
  byte_all (m ∷ rest) q s d i u =
      let one = step s d m rest q in
      byte_all rest (quiet_rest m rest q) (received m s) (during_next s d m one) i (λ b c. u b (came_later size m rest b c)) ∙ byte_step_lem s d m rest i one u

  zero_all : (messages : List Message) → Quiet messages → (s : Reception) → During size file map s → (b : ℕ) → (CameSince size messages b → ⊥)
      → get_or (received_all messages s).map b 0 ≡ get_or s.map b 0
  unfolding received_all
  zero_all [] q s d b u = refl
  zero_all (m ∷ rest) q s d b u =
      let one = step s d m rest q in
      zero_all rest (quiet_rest m rest q) (received m s) (during_next s d m one) b (λ c. u (came_later size m rest b c)) ∙ zero_step s d m rest b one u

  mark_all : (messages : List Message) → Quiet messages → (s : Reception) → During size file map s → (b : ℕ) → block_came s.map b ≡ true
      → block_came (received_all messages s).map b ≡ true
  unfolding received_all
  mark_all [] q s d b h = h
  mark_all (m ∷ rest) q s d b h =
      let one = step s d m rest q in
      mark_all rest (quiet_rest m rest q) (received m s) (during_next s d m one) b (mark_step s d m b one h)

  marked_all : (messages : List Message) → Quiet messages → (s : Reception) → During size file map s → (b : ℕ)
      → block_came (received_all messages s).map b ≡ true → CameSince size messages b ⊎ (block_came s.map b ≡ true)
  unfolding received_all
  marked_all [] q s d b h = inr h
  marked_all (m ∷ rest) q s d b h =
      let one = step s d m rest q in
      ⊎_elim
      (λ c. inl (came_later size m rest b c))
      (λ e. marked_step s d m rest b one e)
      (marked_all rest (quiet_rest m rest q) (received m s) (during_next s d m one) b h)

  -- a block that is accepted among them, and what came before and after it
  module _
      (messages : List Message)
      (quiet : Quiet messages)
      (s : Reception)
      (d : During size file map s)
      (b : ℕ)
      (bytes : List ℕ)
      (a : Among (block b bytes) messages)
      (w : BlockOf size b bytes)
    where
      abbrev until : Reception
      until = received_all a.earlier s

      abbrev then : Reception
      then = lent until.receiver (put (block_start b) bytes until.file) (also_came b until.map)

      quiet_earlier : Quiet a.earlier
      quiet_earlier x = quiet (record {
        size = x.size;
        among = subst (Among (start x.size)) (sym a.splits) (among_front _ a.earlier (block b bytes ∷ a.later) x.among);
        suffices = x.suffices;
      })

      quiet_later : Quiet a.later
      quiet_later x = quiet (record {
        size = x.size;
        among = subst (Among (start x.size)) (sym a.splits) (among_behind _ (block b bytes) a.earlier a.later x.among);
        suffices = x.suffices;
      })

      during_until : During size file map until
      during_until = during_all a.earlier quiet_earlier s d

      taken_so : received (block b bytes) until ≡ then
      unfolding accepted
      taken_so = fine_takes (block b bytes) until ((block_answered until during_until b bytes).1 w)

      during_then : During size file map then
      during_then = subst (During size file map) taken_so (during_next until during_until (block b bytes) (placed b bytes w taken_so))

      split_at : received_all messages s ≡ received_all a.later then
      unfolding received_all
      split_at =
          ap (λ (l : List Message). received_all l s) a.splits ∙ received_append a.earlier (block b bytes ∷ a.later) s
          ∙ ap (received_all a.later) taken_so

      came_marked : block_came (received_all messages s).map b ≡ true
      came_marked =
          rw split_at (mark_all a.later quiet_later then during_then b (also_came_lem b until.map (mark_in until during_until b bytes w)))

      -- no later block lies where this one does
      last_byte : (CameSince size a.later b → ⊥) → (j : ℕ) → j < length bytes
          → get_or (received_all messages s).file (block_start b + j) 0 ≡ get_or bytes j 0
      last_byte none j h =
          rw split_at
          (byte_all a.later quiet_later then during_then (block_start b + j) elsewhere
          ∙ put_in (block_start b) bytes until.file (bytes_in until during_until b bytes w) j h)
        where
          elsewhere : Untouched size a.later (block_start b + j)
          elsewhere c x p q =
              let same : c ≡ b = omega (arith, w.whole, lesser_min 512 (size - block_start b), lesser_min 512 (size - block_start c)) in
              none (rw same at x)

      last_bytes : (CameSince size a.later b → ⊥) → take (length bytes) (drop (block_start b) (received_all messages s).file) ≡ bytes
      last_bytes none =
          let after = (received_all messages s).file in
          let room : length bytes ≤ length (drop (block_start b) after) =
          simp length-drop (omega (arith, bytes_in s d b bytes w, d.file_long, (during_all messages quiet s d).file_long)) in
          let long : length (take (length bytes) (drop (block_start b) after)) ≡ length bytes =
          length-take-le (length bytes) (drop (block_start b) after) room in
          ext_get_or 0 _ bytes long
          (λ j h. get_or-take (length bytes) (drop (block_start b) after) j 0 (rw long at h) ∙ get_or-drop (block_start b) after j 0
          ∙ last_byte none j (rw long at h))

  -- from a map by which nothing came: it has the blocks that were accepted, and the file buffer their bytes
  module _ (messages : List Message) (quiet : Quiet messages) (s : Reception) (d : During size file map s) (n : ℕ) (clear : s.map ≡ none_came n) where
    abbrev after : Reception
    after = received_all messages s

    only_came : (b : ℕ) → block_came after.map b ≡ true → CameSince size messages b
    only_came b h =
        ⊎_elim
        (λ c. c)
        (λ e. absurd (true_false (sym (ap (λ (x : List ℕ). block_came x b) clear) ∙ e) (none_came_lem n b)))
        (marked_all messages quiet s d b h)

    pub kept_since : Kept size messages s.file after.receiver after.file after.map
    kept_since = record {
      picture = (during_all messages quiet s d).state_is;
      marked = λ b. (only_came b, λ c. came_marked messages quiet s d b c.bytes c.among c.accepted);
      unmarked = λ b none. zero_all messages quiet s d b none ∙ ap (λ (x : List ℕ). get_or x b 0) clear ∙ only_zeros n b;
      holds = λ b bytes c. last_bytes messages quiet s d b bytes c.among c.accepted c.none_later;
      else_kept = byte_all messages quiet s d;
    }

-- buffers stay as long as they are
module _ (s : Reception) where
  abbrev pub SameLengths : Reception → Type 0
  SameLengths t = (length t.file ≡ length s.file) × (length t.map ≡ length s.map)

  lengths_accepted : (m : Message) → answer_to m s ≡ no_refusal → SameLengths (accepted m s)
  unfolding accepted
  lengths_accepted (start size) e = (refl, length-replicate (length s.map) 0)
  lengths_accepted (block b bytes) e =
      let p = admitted_place s.receiver b (length bytes) (length s.file) (length s.map) ((block_accepted s b bytes).0 e) in
      (put_length (block_start b) bytes s.file p.bytes_in, also_length b s.map)

  lengths_one : (m : Message) → SameLengths (received m s)
  lengths_one m = by (answer_to m s) refl
    where
      by : (v : Verdict) → answer_to m s ≡ v → SameLengths (received m s)
      by (Ok x) e = subst SameLengths (sym (fine_takes m s e)) (lengths_accepted m e)
      by (Err n) e = subst SameLengths (sym (refused_leaves m s (λ f. refused_passed n tt (sym e ∙ f)))) (refl, refl)

pub lengths_all : (messages : List Message) (s : Reception) → SameLengths s (received_all messages s)
unfolding received_all
lengths_all [] s = (refl, refl)
lengths_all (m ∷ rest) s =
    let one = lengths_one s m in
    let more = lengths_all rest (received m s) in
    (more.0 ∙ one.0, more.1 ∙ one.1)

-- messages with an accepted start, from any state
module _ (messages : List Message) (s : Reception) (l : LastStart (length s.file) (length s.map) messages) where
  abbrev pub at_start : Reception
  at_start = received_all l.before s

  abbrev begun : Reception
  begun = lent (record { started = true; length = l.size }) at_start.file (none_came (length at_start.map))

  begins_so : received (start l.size) at_start ≡ begun
  unfolding accepted
  begins_so =
      let same = lengths_all l.before s in
      fine_takes (start l.size) at_start ((start_accepted at_start l.size).1 (rw (same.0, same.1) l.suffices))

  during_begun : During l.size (length s.file) (length s.map) begun
  during_begun =
      let same = lengths_all l.before s in
      record { state_is = refl; file_long = same.0; map_long = length-replicate (length at_start.map) 0 ∙ same.1 }

  pub since_start : received_all messages s ≡ received_all l.since begun
  unfolding received_all
  since_start =
      ap (λ (x : List Message). received_all x s) l.splits ∙ received_append l.before (start l.size ∷ l.since) s
      ∙ ap (received_all l.since) begins_so

  -- the map and the bytes are those of the blocks accepted since
  pub kept : Kept l.size l.since at_start.file (received_all messages s).receiver (received_all messages s).file (received_all messages s).map
  kept =
      rw since_start
      (kept_since l.size (length s.file) (length s.map) l.suffices l.since l.none_later begun during_begun (length at_start.map) refl)

  -- a block that comes next is accepted exactly if it is one of the picture's
  pub next_accepted : (b : ℕ) (bytes : List ℕ) → (answer_to (block b bytes) (received_all messages s) ≡ no_refusal) ↔ BlockOf l.size b bytes
  next_accepted =
      let d = during_all l.size (length s.file) (length s.map) l.suffices l.since l.none_later begun during_begun in
      rw since_start (block_answered l.size (length s.file) (length s.map) l.suffices (received_all l.since begun) d)

-- where a start is accepted there is a last one
module _ (file map : ℕ) where
  -- a first message that is no accepted start adds none
  none_first : (m : Message) (rest : List Message) → (StartAmong file map rest → ⊥) → ((n : ℕ) → m ≡ start n → Suffice n file map → ⊥)
      → StartAmong file map (m ∷ rest) → ⊥
  none_first m rest none other a =
      ⊎_elim
      (λ e. other a.size e a.suffices)
      (λ x. none (record { size = a.size; among = x; suffices = a.suffices }))
      (among_first_or_later (start a.size) m rest a.among)

  first_accepted : (m : Message) (rest : List Message) → (StartAmong file map rest → ⊥)
      → LastStart file map (m ∷ rest) ⊎ (StartAmong file map (m ∷ rest) → ⊥)
  first_accepted (block b bytes) rest none = inr (none_first (block b bytes) rest none (λ n e fit. no_start e))
    where
      no_start : {n : ℕ} → block b bytes ≡ start n → ⊥
      no_start e = let z : ◌≡◌ {A = ℕ} 0 1 = cc in omega arith
  first_accepted (start size) rest none = by (suffices_for size file map) refl
    where
      by : (t : Bool) → suffices_for size file map ≡ t → LastStart file map (start size ∷ rest) ⊎ (StartAmong file map (start size ∷ rest) → ⊥)
      by true t = inl (record {
        before = [];
        size = size;
        since = rest;
        splits = refl;
        suffices = (suffices_exact size file map).0 t;
        none_later = none;
      })
      by false t =
          inr
          (none_first (start size) rest none
          (λ n e fit. let z : size ≡ n = cc in true_false ((suffices_exact size file map).1 (rw z fit)) t))

  last_or_none : (messages : List Message) → LastStart file map messages ⊎ (StartAmong file map messages → ⊥)
  last_or_none [] = inr (λ a. among_none (start a.size) a.among)
  last_or_none (m ∷ rest) =
      ⊎_elim
      (λ l. inl (record {
        before = m ∷ l.before;
        size = l.size;
        since = l.since;
        splits = ap (λ (x : List Message). m ∷ x) l.splits;
        suffices = l.suffices;
        none_later = l.none_later;
      }))
      (first_accepted m rest)
      (last_or_none rest)

  pub last_start : (messages : List Message) → StartAmong file map messages → LastStart file map messages
  last_start messages a = ⊎_elim (λ l. l) (λ none. absurd (none a)) (last_or_none messages)

-- before any start nothing is taken: a start that is refused leaves all, and so does a block
module _ (s : Reception) (idle : s.receiver.started ≡ false) where
  pub block_before : (b : ℕ) (bytes : List ℕ) → answer_to (block b bytes) s ≡ Err no_such_block
  unfolding answer_to
  block_before b bytes = sym (before_start s.receiver b (length bytes) (length s.file) (length s.map) idle)

  idle_leaves : (m : Message) (rest : List Message) → (StartAmong (length s.file) (length s.map) (m ∷ rest) → ⊥) → received m s ≡ s
  idle_leaves (start n) rest none =
      refused_leaves (start n) s
      (λ e. none (record { size = n; among = among_first (start n) rest; suffices = (start_accepted s n).0 e }))
  idle_leaves (block b bytes) rest none =
      refused_leaves (block b bytes) s (λ e. refused_passed no_such_block tt (sym (block_before b bytes) ∙ e))

  pub idle_all : (messages : List Message) → (StartAmong (length s.file) (length s.map) messages → ⊥) → received_all messages s ≡ s
  unfolding received_all
  idle_all [] none = refl
  idle_all (m ∷ rest) none =
      ap (received_all rest) (idle_leaves m rest none) ∙ idle_all rest (λ a. none (start_later (length s.file) (length s.map) m rest a))

-- where a block was accepted there are bytes that were accepted last
module _ (size b : ℕ) where
  abbrev Last : List Message → Type 0
  Last messages = (bytes : List ℕ) × CameLast size messages b bytes

  abbrev Never : List Message → Type 0
  Never messages = CameSince size messages b → ⊥

  last_later : (m : Message) (rest : List Message) → Last rest → Last (m ∷ rest)
  unfolding among_later
  last_later m rest l = (
    l.0,
    record { among = among_later (block b l.0) m rest l.1.among; accepted = l.1.accepted; none_later = l.1.none_later },
  )

  -- a first message that is no accepted block of this number adds none
  never_first : (m : Message) (rest : List Message) → Never rest → ((bytes : List ℕ) → m ≡ block b bytes → BlockOf size b bytes → ⊥) → Never (m ∷ rest)
  never_first m rest none other c =
      ⊎_elim
      (λ e. other c.bytes e c.accepted)
      (λ a. none (record { bytes = c.bytes; among = a; accepted = c.accepted }))
      (among_first_or_later (block b c.bytes) m rest c.among)

  first_block : (m : Message) (rest : List Message) → Never rest → Last (m ∷ rest) ⊎ Never (m ∷ rest)
  unfolding among_first
  first_block (start n) rest none = inr (never_first (start n) rest none (λ bytes e w. no_block e))
    where
      no_block : {bytes : List ℕ} → start n ≡ block b bytes → ⊥
      no_block e = let z : ◌≡◌ {A = ℕ} 0 1 = cc in omega arith
  first_block (block c bytes) rest none = by (eqb c b) refl (ltb b (blocks_in size)) refl (eqb (length bytes) (block_length size b)) refl
    where
      by : (x : Bool) → eqb c b ≡ x → (y : Bool) → ltb b (blocks_in size) ≡ y → (z : Bool) → eqb (length bytes) (block_length size b) ≡ z
          → Last (block c bytes ∷ rest) ⊎ Never (block c bytes ∷ rest)
      by true x true y true z =
          let same : c ≡ b = eqb-true c b x in
          inl (rw same (
            bytes,
            record {
              among = among_first (block b bytes) rest;
              accepted = record { in_picture = ltb-true b (blocks_in size) y; whole = eqb-true (length bytes) (block_length size b) z };
              none_later = none;
            },
          ))
      by false x y ey z ez = inr (never_first (block c bytes) rest none (λ given e w. let q : c ≡ b = cc in eqb-false c b x q))
      by true x false y z ez = inr (never_first (block c bytes) rest none (λ given e w. omega (arith, w.in_picture, ltb-false b (blocks_in size) y)))
      by true x true y false z =
          inr
          (never_first (block c bytes) rest none
          (λ given e w. let q : bytes ≡ given = cc in eqb-false (length bytes) (block_length size b) z (rw q w.whole)))

  last_or_never : (messages : List Message) → Last messages ⊎ Never messages
  last_or_never [] = inr (λ c. among_none (block b c.bytes) c.among)
  last_or_never (m ∷ rest) = ⊎_elim (λ l. inl (last_later m rest l)) (first_block m rest) (last_or_never rest)

  pub came_last : (messages : List Message) → CameSince size messages b → (bytes : List ℕ) × CameLast size messages b bytes
  came_last messages c = ⊎_elim (λ l. l) (λ never. absurd (never c)) (last_or_never messages)
