-- Pixels by their bytes: one, and four as three numbers of eight bytes.
use Prim.Native.Nat.{ℕ, ◌+◌, ◌*◌, ◌/◌, ◌%◌, ◌<◌}
use mathlib.Core.Path.{◌≡◌, ◌∙◌}
use mathlib.Core.List.{List, [], ◌∷◌, ◌++◌, append-nil}
use native.Mathlib.Omega.{arith}
use borrow.Rule.Slice.PartMut.{put_mid}
use lib.ListN.{length, get_or}
use Rattle.lists.specs.Lists.{span, joined}
use Rattle.lists.proofs.Overlay.{listed}
use Rattle.std.specs.Int.{w16, w64, to_le_bytes}
use Rattle.pixel.specs.Luv.{uv, pixel}
use Rattle.pixel.specs.Inner.{six, four_samples, light_pixel}
use Rattle.pixel.specs.declared.Samples.{Samples}

-- uv's two bytes, the low one first
uv_bytes : (us : List ℕ) (u a : ℕ) → a ≡ uv u → a < 65536 → us ≡ to_le_bytes w16 a → (get_or us 0 0 ≡ uv u % 256) × (get_or us 1 0 ≡ uv u / 256)
uv_bytes us u a p l e = let q : get_or us 1 0 ≡ a / 256 = rw e (omega arith) in (rw (e, p), q ∙ rw p)

-- a pixel by them
pub pixel_stored : (out us vs : List ℕ) (high low u v a b : ℕ) → a ≡ uv u → b ≡ uv v → a < 65536 → b < 65536 → us ≡ to_le_bytes w16 a
    → vs ≡ to_le_bytes w16 b
    → out ≡ low ∷ high ∷ get_or us 0 0 ∷ get_or us 1 0 ∷ get_or vs 0 0 ∷ get_or vs 1 0 ∷ []
    → out ≡ pixel high low u v
unfolding pixel
pixel_stored out us vs high low u v a b p q la lb eu ev e =
    let x = uv_bytes us u a p la eu in
    let y = uv_bytes vs v b q lb ev in
    e ∙ rw (x.0, x.1, y.0, y.1)

same_eight : {a b c d e f g h a' b' c' d' e' f' g' h' : ℕ} → a ≡ a' → b ≡ b' → c ≡ c' → d ≡ d' → e ≡ e' → f ≡ f' → g ≡ g' → h ≡ h'
    → a ∷ b ∷ c ∷ d ∷ e ∷ f ∷ g ∷ h ∷ [] ≡ a' ∷ b' ∷ c' ∷ d' ∷ e' ∷ f' ∷ g' ∷ h' ∷ []
same_eight p q r s t u v w = rw (p, q, r, s, t, u, v, w)

-- four samples are the bytes of one number
pub samples_stored : (out : List ℕ) (a b c d n : ℕ) → a < 65536 → b < 65536 → c < 65536 → d < 65536
    → n ≡ a + b * 65536 + c * 4294967296 + d * 281474976710656 → out ≡ to_le_bytes w64 n
    → out ≡ four_samples a b c d
unfolding four_samples
samples_stored out a b c d n ha hb hc hd is e =
    rw (e, is) (same_eight (omega arith) (omega arith) (omega arith) (omega arith) (omega arith) (omega arith) (omega arith) (omega arith))

-- twelve of them are four pixels
pub twelve_stored : (out a b c : List ℕ) (p q r s : Samples) → length out ≡ 24 → a ≡ four_samples p.light p.u p.v q.light
    → b ≡ four_samples q.u q.v r.light r.u
    → c ≡ four_samples r.v s.light s.u s.v
    → put_mid 16 8 (put_mid 8 8 (put_mid 0 8 out a) b) c ≡ six p ++ (six q ++ (six r ++ six s))
unfolding six four_samples span
twelve_stored out a b c p q r s n ea eb ec = rw (ea, eb, ec, listed 24 out n)

-- the samples of a pixel, as they are read
pub samples_are : (lights us vs : List ℕ) (k light a b : ℕ) → light ≡ get_or lights k 0 → a ≡ uv (get_or us k 0) → b ≡ uv (get_or vs k 0)
    → six (record { light = light; u = a; v = b }) ≡ light_pixel lights us vs k
unfolding six light_pixel pixel
samples_are lights us vs k light a b e p q = rw (e, p, q)

pub four_are : (lights us vs out : List ℕ) (p q r s : Samples) → six p ≡ light_pixel lights us vs 0 → six q ≡ light_pixel lights us vs 1
    → six r ≡ light_pixel lights us vs 2
    → six s ≡ light_pixel lights us vs 3
    → out ≡ six p ++ (six q ++ (six r ++ six s))
    → out ≡ joined (light_pixel lights us vs) 0 4
unfolding joined
four_are lights us vs out p q r s ep eq er es e = e ∙ rw (ep, eq, er, es, append-nil)
