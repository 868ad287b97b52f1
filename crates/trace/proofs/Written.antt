-- A trace is read as it was written: message after message, up to one that is cut or to a byte that begins none.
use Prim.Native.Nat.{ℕ, ◌+◌, ◌-◌, ◌^◌, ◌<◌, ◌≤◌}
use mathlib.Core.Path.{◌≡◌, refl, sym, ap, ◌∙◌}
use mathlib.Core.List.{List, [], ◌∷◌, ◌++◌, append_assoc}
use mathlib.Core.Bool.{Bool, true, false}
use native.Mathlib.Omega.{arith}
use lib.ListN.{length, take, drop, length-append, length-drop}
use lib.Seq.{take_at, drop_at, take-append-le, drop-append-le, drop-drop}
use lib.Dec.{ltb}
use borrow.Author.Tests.{lt-ltb, le-ltb, ltb-false}
use Rattle.lists.specs.Lists.{pick}
use Rattle.checks.specs.Numbers.{truncated, invalid, no_refusal}
use Rattle.words64.specs.Words64.{number_from, digits}
use Rattle.words64.proofs.Digits.{digits_length, number_digits}
use Rattle.trace.specs.declared.Next.TheVariants.{Cut, Foreign, Start, Block}
use Rattle.trace.specs.Trace.{Message, start, block, size_in, next_of, ends_with, goes_on, trace_from, trace_of, written, Writable, written_all, EachWritable, goes_on_all}
use Rattle.trace.proofs.Messages.{first_foreign}
use Rattle.trace.proofs.Traces.{begins}
use Rattle.std.specs.Prelude.{Err}

-- nothing
pub nothing_written : trace_of [] ≡ ends_with no_refusal
unfolding trace_from
nothing_written = refl

-- a start, and what follows it
module _ (size : ℕ) (fits : size < 2 ^ 64) (rest : List ℕ) where
  start_next : Start size ≡ next_of (written (start size) ++ rest)
  unfolding next_of
  start_next =
      let l : 8 ≤ length (digits 8 size ++ rest) = rw (length-append (digits 8 size) rest, digits_length 8 size) (omega arith) in
      rw (le-ltb _ 8 l, take_at (digits 8 size) rest 8 (digits_length 8 size), number_digits 8 size fits)

  start_written : trace_of (written (start size) ++ rest) ≡ goes_on (start size) (trace_of rest)
  start_written =
      begins (written (start size) ++ rest) start_next (Start size) refl
      ∙ ap (λ (x : List ℕ). goes_on (start size) (trace_of x)) (drop_at (digits 8 size) rest 8 (digits_length 8 size))

-- a block, and what follows it
module _ (number : ℕ) (bytes : List ℕ) where
  abbrev body : List ℕ
  body = digits 8 number ++ (digits 2 (length bytes) ++ bytes)

  body_length : length body ≡ 10 + length bytes
  body_length =
      length-append (digits 8 number) _ ∙ omega
      (arith, digits_length 8 number, length-append (digits 2 (length bytes)) bytes, digits_length 2 (length bytes))

  -- the part of the body behind the number, and behind the size
  behind_number : drop 8 body ≡ digits 2 (length bytes) ++ bytes
  behind_number = drop_at (digits 8 number) _ 8 (digits_length 8 number)

  behind_size : drop 10 body ≡ bytes
  behind_size = sym (drop-drop 2 8 body) ∙ rw behind_number (drop_at (digits 2 (length bytes)) bytes 2 (digits_length 2 (length bytes)))

  size_read : length bytes < 65536 → number_from (take 2 (drop 8 body)) ≡ length bytes
  size_read few =
      rw (behind_number, take_at (digits 2 (length bytes)) bytes 2 (digits_length 2 (length bytes))) (number_digits 2 (length bytes) few)

  number_read : number < 2 ^ 64 → number_from (take 8 body) ≡ number
  number_read fits = rw (take_at (digits 8 number) (digits 2 (length bytes) ++ bytes) 8 (digits_length 8 number)) (number_digits 8 number fits)

  -- the size is there as soon as ten bytes are
  size_early : length bytes < 65536 → (p missing : List ℕ) → p ++ missing ≡ body → 10 ≤ length p → size_in p ≡ length bytes
  size_early few p missing e h =
      let l : 8 ≤ length p = omega arith in
      let m : 2 ≤ length (drop 8 p) = simp length-drop (omega arith) in
      ap number_from (sym (take-append-le 2 (drop 8 p) missing m) ∙ ap (take 2) (sym (drop-append-le 8 p missing l) ∙ ap (drop 8) e)) ∙ size_read few

  module _ (fits : number < 2 ^ 64) (few : length bytes < 65536) (rest : List ℕ) where
    block_next : Block number (length bytes) ≡ next_of (written (block number bytes) ++ rest)
    unfolding next_of
    block_next =
        let n : length (body ++ rest) ≡ 10 + length bytes + length rest = length-append body rest ∙ ap (λ (k : ℕ). k + length rest) body_length in
        let l : 10 ≤ length (body ++ rest) = rw n (omega arith) in
        let m : length bytes ≤ length (body ++ rest) - 10 = rw n (omega arith) in
        let a : 8 ≤ length body = omega (arith, body_length) in
        let b : 2 ≤ length (drop 8 body) = simp length-drop (omega (arith, body_length)) in
        let size : size_in (body ++ rest) ≡ length bytes =
        ap number_from (ap (take 2) (drop-append-le 8 body rest a) ∙ take-append-le 2 (drop 8 body) rest b) ∙ size_read few in
        let name : number_from (take 8 (body ++ rest)) ≡ number = ap number_from (take-append-le 8 body rest a) ∙ number_read fits in
        rw (le-ltb (length (body ++ rest)) 10 l, size, le-ltb (length (body ++ rest) - 10) (length bytes) m, name)

    block_written : trace_of (written (block number bytes) ++ rest) ≡ goes_on (block number bytes) (trace_of rest)
    block_written =
        let a : 10 ≤ length body = omega (arith, body_length) in
        let past : drop 10 (body ++ rest) ≡ bytes ++ rest = drop-append-le 10 body rest a ∙ ap (λ (x : List ℕ). x ++ rest) behind_size in
        let taken : take (length bytes) (drop 10 (body ++ rest)) ≡ bytes = rw past (take_at bytes rest (length bytes) refl) in
        let left : drop (10 + length bytes) (body ++ rest) ≡ rest = drop_at body rest (10 + length bytes) body_length in
        begins (written (block number bytes) ++ rest) block_next (Block number (length bytes)) refl
        ∙ rw (taken, left)

pub message_written : (m : Message) → Writable m → (rest : List ℕ) → trace_of (written m ++ rest) ≡ goes_on m (trace_of rest)
message_written (start size) w rest = start_written size w rest
message_written (block number bytes) w rest = block_written number bytes w.0 w.1 rest

pub all_written : (messages : List Message) → EachWritable messages → (rest : List ℕ)
    → trace_of (written_all messages ++ rest) ≡ goes_on_all messages (trace_of rest)
unfolding written_all EachWritable
all_written [] w rest = refl
all_written (m ∷ later) w rest =
    ap trace_of (append_assoc (written m) (written_all later) rest) ∙ message_written m w.0 (written_all later ++ rest)
    ∙ ap (goes_on m) (all_written later w.1 rest)

-- a message of which something is there, and something not
cut_trace : (t : List ℕ) → next_of t ≡ Cut → trace_of t ≡ ends_with (Err truncated)
cut_trace t e = begins t refl Cut e

start_cut_short : (size : ℕ) (p missing : List ℕ) → p ++ missing ≡ digits 8 size → 0 < length missing → next_of (1 ∷ p) ≡ Cut
unfolding next_of
start_cut_short size p missing e some =
    let l : length p < 8 = omega (arith, ap length e, length-append p missing, digits_length 8 size) in
    rw (lt-ltb (length p) 8 l)

block_cut_short : (number : ℕ) (bytes p missing : List ℕ) → length bytes < 65536 → p ++ missing ≡ digits 8 number ++ (digits 2 (length bytes) ++ bytes)
    → 0 < length missing → next_of (2 ∷ p) ≡ Cut
unfolding next_of
block_cut_short number bytes p missing few e some = by (ltb (length p) 10) refl
  where
    by : (t : Bool) → ltb (length p) 10 ≡ t
        → pick t Cut (pick (ltb (length p - 10) (size_in p)) Cut (Block (number_from (take 8 p)) (size_in p))) ≡ Cut
    by true t = refl
    by false t =
        let h : 10 ≤ length p = ltb-false (length p) 10 t in
        let size : size_in p ≡ length bytes = size_early number bytes few p missing e h in
        let l : length p - 10 < length bytes = omega (arith, ap length e, length-append p missing, body_length number bytes) in
        rw (size, lt-ltb (length p - 10) (length bytes) l)

pub cut_written : (m : Message) → Writable m → (part missing : List ℕ) → part ++ missing ≡ written m → 0 < length part → 0 < length missing
    → trace_of part ≡ ends_with (Err truncated)
cut_written m w [] missing e some more = absurd (omega arith)
cut_written (start size) w (b ∷ p) missing e some more =
    let k : b ≡ 1 = cc in
    let q : p ++ missing ≡ digits 8 size = cc in
    rw k (cut_trace (1 ∷ p) (start_cut_short size p missing q more))
cut_written (block number bytes) w (b ∷ p) missing e some more =
    let k : b ≡ 2 = cc in
    let q : p ++ missing ≡ digits 8 number ++ (digits 2 (length bytes) ++ bytes) = cc in
    rw k (cut_trace (2 ∷ p) (block_cut_short number bytes p missing w.1 q more))

-- a byte that begins no message
pub foreign_byte : (b : ℕ) (rest : List ℕ) → (b ≡ 1 → ⊥) → (b ≡ 2 → ⊥) → trace_of (b ∷ rest) ≡ ends_with (Err invalid)
foreign_byte b rest one two = begins (b ∷ rest) refl Foreign (sym (first_foreign (b ∷ rest) (λ e. omega arith) one two))
