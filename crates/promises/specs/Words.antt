-- The words of a handle at the C face: which stand for a handle, and when decode of them succeeds.
use Rattle.std.specs.Prelude.{ℕ, ◌≡◌, List}
use Rattle.seen.specs.Seen.{Seen}
use Rattle.header.specs.declared.Limits.{Limits}
use Rattle.inspection.specs.Inspection.{handle_of}
use Rattle.face_words.specs.Words.{words_of}
use Rattle.promises.specs.Strict.{Given, Decodes}

-- words that stand for a handle: those of the page's, where an inspection gives it
pub record WordsGiven (v : Seen) (page : ℕ) (l : Limits) (words : List ℕ) : Type 0 where
  pub given : Given v l (handle_of v page)
  pub words_are : words ≡ words_of (handle_of v page)

-- decode of words: they are those of the page's handle, and that handle decodes
pub record WordsDecode (v : Seen) (page : ℕ) (l : Limits) (words : List ℕ) (output scratch u w : ℕ) : Type 0 where
  pub words_are : words ≡ words_of (handle_of v page)
  pub decodes : Decodes v l (handle_of v page) output scratch u w
