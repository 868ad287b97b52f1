-- The two heads' numbers, by computing.
use mathlib.Core.Path.{◌≡◌, refl}
use mathlib.Core.Logic.{◌⊎◌, inl, inr}
use mathlib.Core.Bool.{true, false}
use native.Mathlib.Omega.{arith}
use Rattle.head.specs.Heads.{Head, colour_head, mono_head, channels_of, photometric_of}
use Rattle.head.proofs.Heads.{bytes_are}
use Rattle.profile.specs.Profile.{head_in}
use Rattle.profile.specs.declared.Numbers.{Numbers}
use Rattle.promises.specs.Heads.{Chosen, TwoHeads}

either : (n : Numbers) (head : Head) → head_in n ≡ head → n.photometric ≡ photometric_of head → n.samples ≡ channels_of head
    → Chosen n colour_head 32845 3 ⊎ Chosen n mono_head 32844 1
either n false e p s = inl (e, p, s)
either n true e p s = inr (e, p, s)

pub two_heads : TwoHeads
two_heads = record {
  chosen = λ n maxDimension kind. either n (head_in n) refl kind.photometric_is kind.samples_is;
  pixel_bytes = bytes_are;
  colour_needed = λ area. refl;
  colour_pixels = λ area. refl;
  colour_scratch = λ area. refl;
  colour_fee = λ count area. omega arith;
  mono_needed = λ area. refl;
  mono_pixels = λ area. refl;
  mono_scratch = λ area. refl;
  mono_fee = λ count area. omega arith;
}
