-- A row as pixels joined, each of the bytes of its head.
use Prim.Native.Nat.{ℕ, ◌*◌, ◌<◌}
use mathlib.Core.Path.{◌≡◌, refl, ◌∙◌}
use mathlib.Core.Bool.{true, false}
use mathlib.Core.List.{List}
use native.Mathlib.Omega.{arith}
use native.Mathlib.Nat.{mul_comm}
use lib.ListN.{length}
use Rattle.lists.proofs.Rows.{Even, joined_length}
use Rattle.head.specs.Heads.{Head, planes_of, bytes_of}
use Rattle.pixel.specs.Luv.{pixel, pixel_of, pixel_at, row_pixels}

-- a pixel has the bytes of its head, and is one where its planes have the same bytes
pub pixel_length : (head : Head) (w : ℕ) (row : List ℕ) (i : ℕ) → length (pixel_at head w row i) ≡ bytes_of head
unfolding pixel_at pixel
pixel_length false w row i = refl
pixel_length true w row i = refl

pub pixel_same : (head : Head) (a b : ℕ → ℕ) → ((plane : ℕ) → plane < planes_of head → a plane ≡ b plane) → pixel_of head a ≡ pixel_of head b
pixel_same false a b same = rw (same 0 (omega arith), same 1 (omega arith), same 2 (omega arith), same 3 (omega arith))
pixel_same true a b same = rw (same 0 (omega arith), same 1 (omega arith))

pub even_pixels : (head : Head) (w : ℕ) (row : List ℕ) (n : ℕ) → Even (pixel_at head w row) (bytes_of head) n
even_pixels head w row n i h = pixel_length head w row i

pub row_length : (head : Head) (w : ℕ) (row : List ℕ) (n : ℕ) → length (row_pixels head w n row) ≡ bytes_of head * n
unfolding row_pixels
row_length head w row n = joined_length (pixel_at head w row) (bytes_of head) n (even_pixels head w row n) ∙ mul_comm n (bytes_of head)
