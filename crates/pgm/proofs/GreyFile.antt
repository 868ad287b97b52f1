-- The file of a grey picture as parts that follow each other: the header's, and the grey values.
use Prim.Native.Nat.{ℕ, ◌+◌, ◌-◌, ◌*◌, ◌<◌, ◌≤◌}
use mathlib.Core.Path.{◌≡◌, ap, subst, ◌∙◌}
use mathlib.Core.List.{List, [], ◌∷◌}
use native.Mathlib.Omega.{arith}
use lib.ListN.{length, take}
use borrow.Author.Rules.{rules}
use borrow.Author.Tests.{lt-ltb, le-ltb}
use borrow.Rule.Slice.PartMut.{mid_of, put_mid, mid_len}
use Rattle.lists.specs.Lists.{lesser, tabulate}
use Rattle.lists.proofs.Overlay.{length_span}
use Rattle.placing.specs.Placing.{BytesPlaced}
use Rattle.placing.proofs.Parts.{placed_part, placed_more, placed_first}
use Rattle.summary.specs.Grey.{grey_at, whole_pixels, pixels_in}
use Rattle.pgm.specs.Pgm.{decimal_of, header_of, greys_in, pgm_in}

-- the grey values of as many pixels as there are and fit
pub pixels_placed : (size : ℕ) (picture : List ℕ) (width height start : ℕ) (old : List ℕ) (whole most n : ℕ) (grey : List ℕ)
    → start ≤ length old → whole ≡ whole_pixels size (length picture) → most ≡ lesser whole (length old - start) → most ≤ length old - start
    → n ≡ lesser (width * height) most → n ≤ most → grey ≡ tabulate (length (mid_of start (start + n - start) old)) (grey_at size picture)
    → BytesPlaced (greys_in size width height picture (length old - start)) start old (start + n)
    (put_mid start (start + n - start) old grey)
pixels_placed size picture width height start old whole most n grey fits ew em lm en ln eg =
    let some : n ≡ pixels_in size width height (length picture) (length old - start) =
    en ∙ ap (λ (m : ℕ). lesser (width * height) m) em ∙ ap (λ (m : ℕ). lesser (width * height) (lesser m (length old - start))) ew in
    let part : length (mid_of start (start + n - start) old) ≡ n = mid_len start (start + n) old (omega arith) ∙ omega arith in
    let all : grey ≡ tabulate n (grey_at size picture) = eg ∙ rw part in
    let long : length (tabulate n (grey_at size picture)) ≡ n = length_span (grey_at size picture) 0 n in
    subst (λ (m : ℕ). BytesPlaced (tabulate m (grey_at size picture)) start old (start + n) (put_mid start (start + n - start) old grey)) some
    (rw all (placed_part start n (tabulate n (grey_at size picture)) old long (omega arith)))

-- the header's five parts
pub header_placed : (width height : ℕ) (old o₁ o₂ o₃ o₄ out : List ℕ) (e₁ e₂ e₃ e₄ end : ℕ) → BytesPlaced (80 ∷ 53 ∷ 10 ∷ []) 0 old e₁ o₁
    → BytesPlaced (decimal_of width) e₁ o₁ e₂ o₂ → BytesPlaced (32 ∷ []) e₂ o₂ e₃ o₃ → BytesPlaced (decimal_of height) e₃ o₃ e₄ o₄
    → BytesPlaced (10 ∷ 50 ∷ 53 ∷ 53 ∷ 10 ∷ []) e₄ o₄ end out → BytesPlaced (header_of width height) 0 old end out
unfolding header_of
header_placed width height old o₁ o₂ o₃ o₄ out e₁ e₂ e₃ e₄ end p q r s t =
    placed_more _ _ old o₄ out 0 e₄ end
    (placed_more _ _ old o₃ o₄ 0 e₃ e₄ (placed_more _ _ old o₂ o₃ 0 e₂ e₃ (placed_more _ _ old o₁ o₂ 0 e₁ e₂ p q) r) s) t

-- header and pixels
pub file_placed : (size width height : ℕ) (picture old mid out : List ℕ) (m end : ℕ) → 49 ≤ length old
    → BytesPlaced (header_of width height) 0 old m mid → length mid ≡ length old
    → BytesPlaced (greys_in size width height picture (length mid - m)) m mid end out → take end out ≡ pgm_in size width height picture (length old)
unfolding pgm_in
file_placed size width height picture old mid out m end long w l p =
    let room : length mid - m ≡ length old - length (header_of width height) = omega (arith, w.ends) in
    rw (le-ltb (length old) 49 long)
    (placed_first _ old end out
    (placed_more _ _ old mid out 0 m end w
    (subst (λ (x : ℕ). BytesPlaced (greys_in size width height picture x) m mid end out) room p)))

pub no_file : (size width height : ℕ) (picture old : List ℕ) → length old < 49 → take 0 old ≡ pgm_in size width height picture (length old)
unfolding pgm_in
no_file size width height picture old short = rw (lt-ltb (length old) 49 short)

pub ruleset grey_file = (pixels_placed, header_placed, file_placed, no_file, rules)
