-- The table holds uv: one test that antt computes at all 256 places, and the law that carries it to each of them.
use Prim.Native.Nat.{ℕ, ◌<◌}
use mathlib.Core.Path.{◌≡◌, ap, ◌∙◌}
use mathlib.Core.Bool.{Bool}
use mathlib.Core.List.{List}
use native.Mathlib.Omega.{arith}
use lib.Dec.{T, eqb, eqb→eq}
use lib.ListN.{length, get_or}
use Rattle.lists.proofs.Table.{every, at}
use Rattle.pixel.specs.Luv.{uv}
use Rattle.pixel.specs.Table.{HoldsUv}

abbrev is_uv : ℕ → ℕ → Bool
is_uv place entry = eqb entry (uv place)

pub holds_uv : (t : List ℕ) → T (every is_uv 0 t) → length t ≡ 256 → HoldsUv t
holds_uv t test long = record { at = λ k h. eqb→eq (get_or t k 0) (uv k) (at is_uv t test k (omega arith)) }

-- what is read at the place of a byte
pub uv_read : (t : List ℕ) (x k r : ℕ) → HoldsUv t → k ≡ x → k < 256 → r ≡ get_or t k 0 → r ≡ uv x
uv_read t x k r holds e h q = q ∙ holds.at k h ∙ ap uv e
