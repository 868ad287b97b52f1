-- The cursor's steps: a packet opened, a byte given, and the loop that writes what it gives.
use Prim.Native.Nat.{ℕ, suc, ◌+◌, ◌-◌, ◌<◌, ◌≤◌}
use mathlib.Core.Path.{◌≡◌, refl, sym, ap, ◌∙◌}
use mathlib.Core.List.{List, [], ◌∷◌, ◌++◌, append-nil}
use mathlib.Core.Bool.{Bool, true, false}
use native.Mathlib.Omega.{arith}
use native.Mathlib.Nat.{add-zero}
use native.Mathlib.Numerals.{add-one}
use lib.ListN.{length, take, drop, get_or, set, replicate, length-append, drop_of_length-le}
use lib.Seq.{drop-cons, get_or-drop, length-take-le}
use lib.Dec.{leb, ltb}
use borrow.Author.Rules.{rules}
use borrow.Author.Tests.{le-leb, lt-leb, ltb-true, ltb-false, leb-false}
use Rattle.lists.specs.Lists.{pick, overlay}
use Rattle.lists.proofs.Wrote.{Wrote, wrote_none, wrote_one, wrote_all}
use Rattle.packets.specs.Packets.{len_of, payload_of, piece, expand}
use Rattle.packets.specs.Inner.{Accepted, PacketIs}
use Rattle.logluv.specs.Inner.{start_cursor, ahead, SoundCursor, Opened, Ready, Stepped}
use Rattle.logluv.specs.declared.Cursor.{Cursor}
use Rattle.packets.proofs.Laws.{len_literal, len_run, payload_literal, payload_run}
use Rattle.packets.proofs.Expand.{expand_at, expand_end, expand_length, piece_literal, piece_run, good}

pick_same : (b : Bool) (x : List ℕ) → pick b x x ≡ x
pick_same true x = refl
pick_same false x = refl

-- a cursor with no packet at hand
ahead_none : (p : List ℕ) (c : Cursor) → c.run ≡ 0 → ahead p c ≡ expand (drop c.at p) 0
unfolding ahead
ahead_none p c e = rw (e, pick_same c.repeat [])

pub fresh_sound : (p : List ℕ) (needed : ℕ) → Accepted p needed → SoundCursor p start_cursor
fresh_sound p needed a =
    record { inside = omega arith; byte = λ h. absurd (omega arith); literal = λ e. omega arith; left = needed; rest = a }

abbrev opens : ℕ → ℕ → ℕ → ℕ → Cursor
opens at control len payload = record { at = at + 1 + payload; place = at + 1; run = len; repeat = leb 128 control }

module _ (p : List ℕ) (at control len payload : ℕ) (k : PacketIs p at control len payload) (h : at < length p) where
  -- the packet at a place, as the cursor has it
  opened_gives : ahead p (opens at control len payload) ≡ expand (drop at p) 0
  unfolding ahead
  opened_gives = by (ltb control 128) refl
    where
      after : expand (drop at p) 0 ≡ piece control (drop (at + 1) p) ++ expand (drop (at + 1 + payload) p) 0
      after = expand_at p at h ∙ rw (← k.control_is, ← k.payload_is)

      by : (t : Bool) → ltb control 128 ≡ t → ahead p (opens at control len payload) ≡ expand (drop at p) 0
      by true t =
          let l = ltb-true control 128 t in
          rw (lt-leb 128 control l, k.len_is ∙ len_literal control l) (sym (after ∙ rw (piece_literal control (drop (at + 1) p) l)))
      by false t =
          let l = ltb-false control 128 t in
          rw (le-leb 128 control l, k.len_is ∙ len_run control l)
          (sym (after ∙ rw (piece_run control (drop (at + 1) p) l, get_or-drop (at + 1) p 0 0, add-zero (at + 1))))

  opened_sound : (left : ℕ) → Accepted (drop at p) left → SoundCursor p (opens at control len payload)
  opened_sound left a =
      let g = good p at left h a in
      let i : at + 1 + payload ≤ length p = rw (k.payload_is ∙ ap payload_of k.control_is) g.inside in
      record {
        inside = i;
        byte = λ s. by (ltb control 128) refl s i;
        literal = λ e. (let l = leb-false 128 control e in omega (arith, k.len_is ∙ len_literal control l, k.payload_is ∙ payload_literal control l));
        left = left - len;
        rest = rw (k.payload_is ∙ ap payload_of k.control_is, k.len_is ∙ ap len_of k.control_is) g.rest;
      }
    where
      by : (t : Bool) → ltb control 128 ≡ t → 0 < len → at + 1 + payload ≤ length p → at + 1 < length p
      by true t s i = let l = ltb-true control 128 t in omega (arith, k.len_is ∙ len_literal control l, k.payload_is ∙ payload_literal control l)
      by false t s i = let l = ltb-false control 128 t in omega (arith, k.payload_is ∙ payload_run control l)

-- something is ahead, so a packet is
pub more_packets : (p : List ℕ) (c : Cursor) → c.run ≡ 0 → 0 < length (ahead p c) → c.at < length p
more_packets p c e s = by (ltb c.at (length p)) refl
  where
    by : (t : Bool) → ltb c.at (length p) ≡ t → c.at < length p
    by true t = ltb-true _ _ t
    by false t = absurd (omega (arith, ap length (ahead_none p c e ∙ expand_end p c.at (ltb-false _ _ t))))

pub opened : (p : List ℕ) (c : Cursor) (control len payload : ℕ) → SoundCursor p c → c.run ≡ 0 → 0 < length (ahead p c)
    → PacketIs p c.at control len payload → Opened p c (opens c.at control len payload)
opened p c control len payload s e some k =
    let h = more_packets p c e some in
    record {
      sound = opened_sound p c.at control len payload k h s.left s.rest;
      same = opened_gives p c.at control len payload k h ∙ sym (ahead_none p c e);
      onward = omega arith;
    }

one_less : (n : ℕ) → 0 < n → n ≡ suc (n - 1)
one_less n h = omega arith

run_more : (n b : ℕ) → 0 < n → replicate n b ≡ b ∷ replicate (n - 1) b
run_more n b h = ap (λ (m : ℕ). replicate m b) (one_less n h)

literal_more : (p : List ℕ) (n at : ℕ) → 0 < n → at < length p → take n (drop at p) ≡ get_or p at 0 ∷ take (n - 1) (drop (at + 1) p)
literal_more p n at h i = ap (λ (m : ℕ). take m (drop at p)) (one_less n h) ∙ rw (drop-cons p at 0 i, add-one at)

-- a byte of the packet at hand
module _ (p : List ℕ) (c d : Cursor) (r : Ready p c d) where
  pub byte_in : d.place < length p
  byte_in = r.sound.byte r.some

  pub step_run : d.repeat ≡ true → Stepped p c (get_or p d.place 0) (record { at = d.at; place = d.place; run = d.run - 1; repeat = d.repeat })
  unfolding ahead
  step_run e =
      record {
        sound = record {
          inside = r.sound.inside;
          byte = λ h. byte_in;
          literal = λ q. absurd cc;
          left = r.sound.left;
          rest = r.sound.rest;
        };
        gives = sym r.same ∙ rw (e, run_more d.run (get_or p d.place 0) r.some);
      }

  pub step_literal : d.repeat ≡ false → Stepped p c (get_or p d.place 0) (record { at = d.at; place = d.place + 1; run = d.run - 1; repeat = d.repeat })
  unfolding ahead
  step_literal e =
      let l = r.sound.literal e in
      record {
        sound = record {
          inside = r.sound.inside;
          byte = λ h. omega arith;
          literal = λ q. omega (arith, r.some);
          left = r.sound.left;
          rest = r.sound.rest;
        };
        gives = sym r.same ∙ rw (e, literal_more p d.run d.place r.some byte_in);
      }

-- The loop that writes the bytes, one a step.
pub record Giving (p : List ℕ) (needed : ℕ) (old out : List ℕ) (c : Cursor) (i : ℕ) : Type 0 where
  pub sound : SoundCursor p c
  pub upto : i ≤ needed
  pub room : needed ≤ length old
  pub long : length out ≡ length old
  pub wrote : Wrote (expand p 0) (ahead p c) old out i
  pub whole : length (expand p 0) ≡ needed

pub giving_none : (p : List ℕ) (needed : ℕ) (out : List ℕ) (c : Cursor) → Accepted p needed → needed ≤ length out → c ≡ start_cursor
    → Giving p needed out out c 0
giving_none p needed out c a h e =
    rw e
    (record {
      sound = fresh_sound p needed a;
      upto = omega arith;
      room = h;
      long = refl;
      wrote = rw (ahead_none p start_cursor refl) (wrote_none (expand p 0) out);
      whole = expand_length p needed a;
    })

module _ (p : List ℕ) (needed : ℕ) (old out : List ℕ) (c : Cursor) (i : ℕ) (g : Giving p needed old out c i) where
  rest_length : i + length (ahead p c) ≡ needed
  rest_length =
      let t : length (take i out) ≡ i = length-take-le i out (omega (arith, g.long, g.room, g.upto)) in
      omega (arith, sym (length-append (take i out) (ahead p c)) ∙ ap length g.wrote.done ∙ g.whole)

  pub giving_some : i < needed → 0 < length (ahead p c)
  giving_some h = omega (arith, rest_length)

  pub giving_more : (b : ℕ) (d : Cursor) → i < needed → Stepped p c b d → Giving p needed old (set out i b) d (i + 1)
  giving_more b d h s =
      let w = wrote_one _ _ old out i g.wrote b (ahead p d) s.gives (omega (arith, g.long, g.room)) in
      record { sound = s.sound; upto = omega arith; room = g.room; long = w.same; wrote = w; whole = g.whole }

  pub giving_all : needed ≤ i → out ≡ overlay (expand p 0) old
  giving_all h =
      let z : length (ahead p c) ≡ 0 = omega (arith, rest_length, g.upto) in
      wrote_all _ old out i (rw (empty (ahead p c) z) at g.wrote) (omega (arith, g.whole, g.upto))
    where
      empty : (l : List ℕ) → length l ≡ 0 → l ≡ []
      empty [] e = refl
      empty (x ∷ l) e = absurd (omega arith)

-- a front that is written whole
pub giving_front : (p : List ℕ) (needed : ℕ) (old front : List ℕ) (c : Cursor) (i : ℕ) → needed ≤ length old → Giving p needed (take needed old) front c i
    → length (take needed old) ≤ i → front ++ drop needed old ≡ overlay (expand p 0) old
unfolding overlay
giving_front p needed old front c i h g t =
    let long : length (take needed old) ≡ needed = length-take-le needed old h in
    let e : front ≡ overlay (expand p 0) (take needed old) = giving_all p needed (take needed old) front c i g (omega arith) in
    let z : length (take needed old) ≤ length (expand p 0) = omega (arith, g.whole) in
    rw (e, drop_of_length-le (take needed old) z, append-nil, g.whole)

pub ruleset steps = (more_packets, opened, byte_in, step_run, step_literal, giving_none, giving_some, giving_more, giving_all, rules)
