-- What passes the C face as words: the six limits, and a handle.
use Rattle.std.specs.Prelude.{ℕ, Bool, true, false, ◌&&◌, List, [], ◌∷◌, eqb}
use Rattle.head.specs.Heads.{channels_of}
use Rattle.header.specs.declared.Limits.{Limits}
use Rattle.handle.specs.declared.Handle.{Handle}

-- the six limits, in the order of rule 1.6
abbrev pub limits_of : ℕ → ℕ → ℕ → ℕ → ℕ → ℕ → Limits
limits_of input output dimension directories tags segments = record {
  max_input = input;
  max_output = output;
  max_dimension = dimension;
  max_directories = directories;
  max_tags = tags;
  max_segments = segments;
}

-- the words of a handle: upstream's eleven getters, its three sizes, then the blocks and the segments (rule 7.2)
abbrev pub words_of : Handle → List ℕ
words_of h =
    h.format.width ∷
    h.format.height ∷
    channels_of h.format.mono ∷
    16 ∷
    16 ∷
    1 ∷
    34676 ∷
    h.page ∷
    h.format.entries ∷
    0 ∷
    0 ∷
    h.format.output ∷
    h.scratch ∷
    h.work ∷
    h.format.block_width ∷
    h.format.block_height ∷
    h.format.segments ∷ []

-- equal word by word
unfoldable pub same_words : List ℕ → List ℕ → Bool
same_words [] [] = true
same_words (a ∷ rest) (b ∷ others) = eqb a b && same_words rest others
same_words [] (b ∷ others) = false
same_words (a ∷ rest) [] = false
