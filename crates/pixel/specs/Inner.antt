-- What only the code's own functions ask for and promise each other: room for pixels, and four pixels as numbers of eight bytes.
use Rattle.std.specs.Prelude.{ℕ, ◌/◌, ◌%◌, ◌<◌, ◌≡◌, List, [], ◌∷◌, get_or}
use Rattle.pixel.specs.Luv.{pixel}
use Rattle.pixel.specs.declared.Samples.{Samples}

-- L, u and v of pixel k
pub record HasPixel (k lights us vs : ℕ) : Type 0 where
  pub light_in : k < lights
  pub u_in : k < us
  pub v_in : k < vs

-- L, u and v of four pixels, and just their room
pub record Four (lights us vs out : ℕ) : Type 0 where
  pub lights_four : lights ≡ 4
  pub us_four : us ≡ 4
  pub vs_four : vs ≡ 4
  pub exact : out ≡ 24

-- the bytes of a pixel's samples
unfoldable pub six : Samples → List ℕ
six p = p.light % 256 ∷ p.light / 256 ∷ p.u % 256 ∷ p.u / 256 ∷ p.v % 256 ∷ p.v / 256 ∷ []

-- four samples of 16 bits, the low byte of each first
unfoldable pub four_samples : ℕ → ℕ → ℕ → ℕ → List ℕ
four_samples a b c d = a % 256 ∷ a / 256 ∷ b % 256 ∷ b / 256 ∷ c % 256 ∷ c / 256 ∷ d % 256 ∷ d / 256 ∷ []

-- pixel k, of which L is one number, and u and v are bytes
unfoldable pub light_pixel : List ℕ → List ℕ → List ℕ → ℕ → List ℕ
light_pixel lights us vs k = pixel (get_or lights k 0 / 256) (get_or lights k 0 % 256) (get_or us k 0) (get_or vs k 0)
