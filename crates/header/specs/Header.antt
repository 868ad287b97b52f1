-- The limits on the whole file, then its first eight bytes: byte order and first directory (rules 2.2 to 2.5).
use Rattle.std.specs.Prelude.{ℕ, suc, ◌≡◌, ◌⊎◌, List, [], ◌∷◌, ◌++◌, Bool, true, not, ◌&&◌, ◌||◌, ltb, leb, eqb, Result}
use Rattle.checks.specs.Numbers.{invalid, unsupported, limit}
use Rattle.checks.specs.Checks.{Check, must, verdict, giving}
use Rattle.seen.specs.Seen.{Seen, there, There, four}
use Rattle.header.specs.declared.Limits.{Limits}
use Rattle.header.specs.declared.Start.{Start}
use Rattle.checks.specs.declared.Refusal.{Refusal}

-- the file's length and the page (rule 2.2)
abbrev pub limit_checks : ℕ → ℕ → Limits → List Check
limit_checks size page l = must (leb size l.max_input) limit ∷ must (ltb page l.max_directories) limit ∷ []

-- the bytes from i on are these
unfoldable pub begins : Seen → ℕ → List ℕ → Bool
begins v i [] = true
begins v i (x ∷ xs) = eqb (v.byte i) x && begins v (suc i) xs

-- the strings of the two byte orders, and those of the 64-bit format (rule 2.4)
abbrev pub little_endian : Seen → Bool
little_endian v = begins v 0 (0x49 ∷ 0x49 ∷ 0x2A ∷ 0x00 ∷ [])

abbrev pub big_endian : Seen → Bool
big_endian v = begins v 0 (0x4D ∷ 0x4D ∷ 0x00 ∷ 0x2A ∷ [])

abbrev pub long_little : Seen → Bool
long_little v = begins v 0 (0x49 ∷ 0x49 ∷ 0x2B ∷ 0x00 ∷ [])

abbrev pub long_big : Seen → Bool
long_big v = begins v 0 (0x4D ∷ 0x4D ∷ 0x00 ∷ 0x2B ∷ [])

unfoldable pub order_checks : Seen → List Check
order_checks v = must (not (long_little v || long_big v)) unsupported ∷ must (big_endian v || little_endian v) invalid ∷ []

-- eight bytes are needed, then these (rule 2.3)
unfoldable pub header_checks : Seen → List Check
header_checks v = there v 0 8 ++ order_checks v

-- where the first directory stands (rule 2.5)
abbrev pub first_of : Seen → ℕ
first_of v = four (big_endian v) v 4

-- the answer to a list of checks on the header
abbrev pub start_of : Seen → List Check → Result Start Refusal
start_of v cs = giving (verdict cs) (record { big = big_endian v; first = first_of v })

-- without order: a file begins with these four bytes
pub record Opens (v : Seen) (a b c d : ℕ) : Type 0 where
  pub byte_0 : v.byte 0 ≡ a
  pub byte_1 : v.byte 1 ≡ b
  pub byte_2 : v.byte 2 ≡ c
  pub byte_3 : v.byte 3 ≡ d

-- what is true of a file exactly if every check of its header holds: the low byte first, or the high byte first
pub record HeaderFine (v : Seen) : Type 0 where
  pub eight_bytes : There v 0 8
  pub byte_order : Opens v 0x49 0x49 0x2A 0x00 ⊎ Opens v 0x4D 0x4D 0x00 0x2A
