-- Packets of bytes: a control and its payload. What they are checked for, in order, and the bytes that they stand for.
use Rattle.std.specs.Prelude.{ℕ, zero, suc, ◌+◌, ◌-◌, ◌%◌, ◌≤◌, ◌≡◌, List, [], ◌∷◌, ◌++◌, length, take, drop, get_or, replicate, ltb, leb, eqb}
use Rattle.lists.specs.Lists.{pick}
use Rattle.checks.specs.Numbers.{truncated, invalid, output_too_small}
use Rattle.checks.specs.Checks.{Check, must, Holds}

-- how many bytes a packet of control n stands for, and how many follow its control (rule 4.3)
unfoldable pub len_of : ℕ → ℕ
len_of n = pick (ltb n 128) n (n - 126)

unfoldable pub payload_of : ℕ → ℕ
payload_of n = pick (ltb n 128) n 1

-- what is left to the next boundary of the stride, counted from the end (rule 4.5)
unfoldable pub room_of : ℕ → ℕ → ℕ
room_of stride left = pick (eqb (left % stride) 0) stride (left % stride)

-- the packets of a range that are to fill `left` bytes; the first `skip` bytes belong to the packet before (rules 4.5 to 4.7)
unfoldable pub packet_checks : ℕ → List ℕ → ℕ → ℕ → List Check
packet_checks stride [] skip left = must (eqb left 0) truncated ∷ []
packet_checks stride (n ∷ rest) (suc skip) left = packet_checks stride rest skip left
packet_checks stride (n ∷ rest) zero left =
    must (leb (payload_of n) (length rest)) truncated ∷
    must (leb (len_of n) left) invalid ∷
    must (leb (len_of n) (room_of stride left)) invalid ∷
    packet_checks stride rest (payload_of n) (left - len_of n)

-- the same without order and without numbers: the packets of a range fill `left` bytes. The range is used up and nothing is left; or a
-- control and its payload lie in the range, its packet stands for no more than what is left, nor than what is left to the stride's
-- boundary, and the rest of the range fills the rest
pub data Fills (stride : ℕ) : List ℕ → ℕ → Type 0 where
  ended : Fills stride [] 0
  packet : (control : ℕ) (payload rest : List ℕ) (left : ℕ)
      → length payload ≡ payload_of control
      → len_of control ≤ left
      → len_of control ≤ room_of stride left
      → Fills stride rest (left - len_of control)
      → Fills stride (control ∷ (payload ++ rest)) left

-- the packet at a place fits the range, what is left and the stride, and the packets after it pass
pub record FitsAt (stride : ℕ) (p : List ℕ) (at left : ℕ) : Type 0 where
  pub payload : payload_of (get_or p at 0) ≤ length p - at - 1
  pub within : len_of (get_or p at 0) ≤ left
  pub row : len_of (get_or p at 0) ≤ room_of stride left
  pub rest : Holds (packet_checks stride (drop (at + 1 + payload_of (get_or p at 0)) p) 0 (left - len_of (get_or p at 0)))

-- the bytes that one packet stands for: the next n as they are, or one of them n - 126 times (rule 4.3)
unfoldable pub piece : ℕ → List ℕ → List ℕ
piece n rest = pick (ltb n 128) (take n rest) (replicate (n - 126) (get_or rest 0 0))

unfoldable pub expand : List ℕ → ℕ → List ℕ
expand [] skip = []
expand (n ∷ rest) (suc skip) = expand rest skip
expand (n ∷ rest) zero = piece n rest ++ expand rest (payload_of n)

-- count bytes of a file from start on
abbrev pub part : List ℕ → ℕ → ℕ → List ℕ
part s start count = take count (drop start s)

-- a range of a file: a stride, the range inside the file, its packets (rule 4.8)
unfoldable pub range_checks : List ℕ → ℕ → ℕ → ℕ → ℕ → List Check
range_checks s start count stride needed =
    must (ltb 0 stride) invalid ∷
    must (leb start (length s)) truncated ∷
    must (leb count (length s - start)) truncated ∷
    packet_checks stride (part s start count) 0 needed

-- the same, and room for what the packets stand for (rule 4.8)
abbrev pub range_decode_checks : List ℕ → ℕ → ℕ → ℕ → ℕ → ℕ → List Check
range_decode_checks s start count stride needed room =
    range_checks s start count stride needed ++ (must (leb needed room) output_too_small ∷ [])
