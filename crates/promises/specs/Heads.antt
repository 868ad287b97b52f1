-- The two heads in the rules' own numbers (rules 3.2, 3.7, 3.9, 4.2 d, 4.4, 5.3, 6.2 and 7.3): what every definition says once over planes and bytes
-- comes to these.
use Rattle.std.specs.Prelude.{ℕ, ◌+◌, ◌*◌, ◌≡◌, ◌⊎◌}
use Rattle.head.specs.Heads.{Head, colour_head, mono_head, bytes_of, channels_of}
use Rattle.geometry.specs.Costs.{needed_for, scratch_for, fee}
use Rattle.profile.specs.Profile.{head_in}
use Rattle.profile.specs.Accepted.{KindFine}
use Rattle.profile.specs.declared.Numbers.{Numbers}

-- step 2 chose this head, and slots 4 and 8 are these
abbrev pub Chosen : Numbers → Head → ℕ → ℕ → Type 0
Chosen n head photometric samples = (head_in n ≡ head) × (n.photometric ≡ photometric) × (n.samples ≡ samples)

pub record TwoHeads : Type 0 where
  -- a picture that passes step 2 is of one of the two, by slots 4 and 8 together
  pub chosen : (n : Numbers) (maxDimension : ℕ) → KindFine n maxDimension → Chosen n colour_head 32845 3 ⊎ Chosen n mono_head 32844 1
  -- two bytes for each channel
  pub pixel_bytes : (head : Head) → bytes_of head ≡ 2 * channels_of head
  -- for an area A the colour head needs 4A bytes, 10A of scratch, of which 6A would be pixels, and a fee of count + 20A + 1
  pub colour_needed : (area : ℕ) → needed_for colour_head area ≡ 4 * area
  pub colour_pixels : (area : ℕ) → bytes_of colour_head * area ≡ 6 * area
  pub colour_scratch : (area : ℕ) → scratch_for colour_head area ≡ 10 * area
  pub colour_fee : (count area : ℕ) → fee colour_head count area ≡ count + 20 * area + 1
  -- the monochrome head 2A, 4A, 2A and count + 8A + 1
  pub mono_needed : (area : ℕ) → needed_for mono_head area ≡ 2 * area
  pub mono_pixels : (area : ℕ) → bytes_of mono_head * area ≡ 2 * area
  pub mono_scratch : (area : ℕ) → scratch_for mono_head area ≡ 4 * area
  pub mono_fee : (count area : ℕ) → fee mono_head count area ≡ count + 8 * area + 1
