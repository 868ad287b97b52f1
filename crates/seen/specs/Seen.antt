-- What is seen of a file under a delivery map: its size, which bytes came, and the bytes as far as they came.
use Rattle.std.specs.Prelude.{ℕ, zero, suc, ◌+◌, ◌-◌, ◌*◌, ◌/◌, ◌<◌, ◌≤◌, ◌≡◌, List, [], ◌∷◌, Bool, true, false, length, get_or, set, replicate, ltb, leb, eqb}
use Rattle.lists.specs.Lists.{pick, lesser}
use Rattle.checks.specs.Numbers.{number_of, truncated, not_arrived, map_size}
use Rattle.checks.specs.Checks.{Check, must}
use Rattle.seen.specs.declared.Reach.{Reach}
use Rattle.seen.specs.declared.Reach.TheVariants.{Inside, Outside, Missing}

pub record Seen : Type 0 where
  pub size : ℕ
  pub came : ℕ → Bool
  pub byte : ℕ → ℕ

-- a block is 512 bytes (rule 8.2)
abbrev pub block_of : ℕ → ℕ
block_of i = i / 512

abbrev pub blocks_in : ℕ → ℕ
blocks_in size = (size + 511) / 512

-- where a block begins, and how many bytes it has in a file of this size: the last one has the rest
abbrev pub block_start : ℕ → ℕ
block_start b = b * 512

abbrev pub block_length : ℕ → ℕ → ℕ
block_length size b = lesser 512 (size - block_start b)

-- the map has one byte a block: 1 for arrived, all else not (rule 8.2)
unfoldable pub block_came : List ℕ → ℕ → Bool
block_came map b = eqb (get_or map b 0) 1

-- a map by which no block came, and one by which this block came too
abbrev pub none_came : ℕ → List ℕ
none_came n = replicate n 0

unfoldable pub also_came : ℕ → List ℕ → List ℕ
also_came b map = set map b 1

-- so long is the map of a file of this size
abbrev pub map_length : ℕ → ℕ
map_length size = blocks_in size

-- a map of length 0 stands for a file that came whole (rules 8.2 and 8.3)
abbrev pub map_checks : ℕ → ℕ → List Check
map_checks size n = must (pick (eqb n 0) true (eqb n (map_length size))) map_size ∷ []

-- no map is lent where all of a file is at hand
unfoldable pub arrived : List ℕ → ℕ → Bool
arrived map i = pick (eqb (length map) 0) true (block_came map (block_of i))

-- outside the file nothing is missing
unfoldable pub came_in : ℕ → List ℕ → ℕ → Bool
came_in size map i = pick (ltb i size) (arrived map i) true

-- a byte that did not come is seen as 0
abbrev pub seen : List ℕ → List ℕ → Seen
seen file map = record {
  size = length file;
  came = came_in (length file) map;
  byte = λ i. pick (came_in (length file) map i) (get_or file i 0) 0;
}

-- each of n bytes from start came
unfoldable pub whole : (ℕ → Bool) → ℕ → ℕ → Bool
whole came start zero = true
whole came start (suc n) = pick (came start) (whole came (suc start) n) false

-- n bytes from start lie in a file of this size
unfoldable pub inside : ℕ → ℕ → ℕ → Bool
inside size start n = pick (leb start size) (leb n (size - start)) false

unfoldable pub reach_of : Seen → ℕ → ℕ → Reach
reach_of v start n = pick (inside v.size start n) (pick (whole v.came start n) Inside Missing) Outside

-- the number that it stands for: outside 1, not arrived 8 (rule 2.1)
abbrev pub reach_number : Reach → ℕ
reach_number Inside = 0
reach_number Outside = number_of truncated
reach_number Missing = number_of not_arrived

-- n bytes from start are needed: outside the file is refused first (rule 2.1)
abbrev pub there : Seen → ℕ → ℕ → List Check
there v start n = must (inside v.size start n) truncated ∷ must (whole v.came start n) not_arrived ∷ []

-- the same without order
pub record There (v : Seen) (start n : ℕ) : Type 0 where
  pub in_file : start + n ≤ v.size
  pub came_all : whole v.came start n ≡ true

-- two files of one length that agree wherever the map says that it came (rule 8.10)
pub record Agree (f g map : List ℕ) : Type 0 where
  pub one_length : length f ≡ length g
  pub where_came : (i : ℕ) → i < length g → arrived map i ≡ true → get_or f i 0 ≡ get_or g i 0

-- words in the file's byte order (rule 2.11)
unfoldable pub two : Bool → Seen → ℕ → ℕ
two big v i = pick big (v.byte i * 256 + v.byte (i + 1)) (v.byte i + v.byte (i + 1) * 256)

unfoldable pub four : Bool → Seen → ℕ → ℕ
four big v i = pick big (two big v i * 65536 + two big v (i + 2)) (two big v i + two big v (i + 2) * 65536)
