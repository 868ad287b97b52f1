-- The two heads as a table (rule 3.9): what holds of both is said over these numbers. A head is told by whether it is the monochrome one.
use Rattle.std.specs.Prelude.{ℕ, Bool, true, false}

abbrev pub Head : Type 0
Head = Bool

abbrev pub colour_head : Head
colour_head = false

abbrev pub mono_head : Head
mono_head = true

-- p, the planes of a row
abbrev pub planes_of : Head → ℕ
planes_of false = 4
planes_of true = 2

-- b, the bytes of a pixel
abbrev pub bytes_of : Head → ℕ
bytes_of false = 6
bytes_of true = 2

-- the samples of a pixel, which slot 8 has
abbrev pub channels_of : Head → ℕ
channels_of false = 3
channels_of true = 1

-- what slot 4 has: LogLuv or LogL
abbrev pub photometric_of : Head → ℕ
photometric_of false = 32845
photometric_of true = 32844
