-- What is seen decides every outcome over it: two files that agree in all that came are seen alike.
use Prim.Native.Nat.{ℕ, ◌<◌, ◌≤◌}
use mathlib.Core.Path.{◌≡◌, refl, ap, ◌∙◌, fun_ext}
use mathlib.Core.List.{List, []}
use mathlib.Core.Bool.{Bool, true, false}
use lib.ListN.{length, get_or, get_or-eq_default}
use lib.Dec.{ltb}
use native.Mathlib.Omega.{arith}
use borrow.Author.Tests.{ltb-true, ltb-false}
use Rattle.lists.specs.Lists.{pick}
use Rattle.seen.specs.Seen.{Seen, seen, arrived, came_in, whole, Agree}
use Rattle.seen.proofs.Blocks.{whole_yes}

masked : (b : Bool) (x y : ℕ) → (b ≡ true → x ≡ y) → pick b x 0 ≡ pick b y 0
masked true x y h = h refl
masked false x y h = refl

made : ℕ → (ℕ → Bool) → (ℕ → ℕ) → Seen
made n c b = record { size = n; came = c; byte = b }

-- outside the file both read as 0; inside, a byte that came is equal in both
same_byte : (f g map : List ℕ) → Agree f g map → (i : ℕ) (t : Bool) → ltb i (length g) ≡ t
    → pick (came_in (length g) map i) (get_or f i 0) 0 ≡ pick (came_in (length g) map i) (get_or g i 0) 0
unfolding came_in
same_byte f g map a i true t = rw t (masked (arrived map i) (get_or f i 0) (get_or g i 0) (a.where_came i (ltb-true i (length g) t)))
same_byte f g map a i false t =
    let h : length g ≤ i = ltb-false i (length g) t in
    let k : length f ≤ i = omega (arith, a.one_length) in
    rw (t, get_or-eq_default g 0 h, get_or-eq_default f 0 k)

pub alike : (f g map : List ℕ) → Agree f g map → seen f map ≡ seen g map
unfolding made
alike f g map a =
    let byte : (n : ℕ) → List ℕ → ℕ → ℕ = λ n l i. pick (came_in n map i) (get_or l i 0) 0 in
    ap (λ (n : ℕ). made n (came_in n map) (byte n f)) a.one_length
    ∙ ap (λ (b : ℕ → ℕ). made (length g) (came_in (length g) map) b) (fun_ext (λ i. same_byte f g map a i (ltb i (length g)) refl))

-- so every outcome over what is seen is the same
pub same_outcome : {X : Type 0} (outcome : Seen → X) (f g map : List ℕ) → Agree f g map → outcome (seen f map) ≡ outcome (seen g map)
same_outcome outcome f g map a = ap outcome (alike f g map a)

came_same : (f map : List ℕ) (i : ℕ) (b : Bool) → ltb i (length f) ≡ b → (i < length f → arrived map i ≡ true)
    → came_in (length f) map i ≡ came_in (length f) [] i
unfolding came_in arrived
came_same f map i true e h = rw (e, h (ltb-true i (length f) e))
came_same f map i false e h = rw e

-- a file of which every byte came is seen as one with no map
pub came_whole : (f map : List ℕ) → ((i : ℕ) → i < length f → arrived map i ≡ true) → seen f map ≡ seen f []
unfolding made
came_whole f map h = ap (λ (c : ℕ → Bool). made (length f) c (λ i. pick (c i) (get_or f i 0) 0)) (fun_ext (λ i. came_same f map i (ltb i (length f)) refl (h i)))

-- of a file with no map nothing is missing
none_missing : (f : List ℕ) (i : ℕ) (t : Bool) → ltb i (length f) ≡ t → came_in (length f) [] i ≡ true
unfolding came_in arrived
none_missing f i true t = rw t
none_missing f i false t = rw t

pub whole_came : (f : List ℕ) (start n : ℕ) → whole (seen f []).came start n ≡ true
whole_came f start n = whole_yes (seen f []).came n start (λ i a b. none_missing f i (ltb i (length f)) refl)

-- and its bytes are the file's
pub byte_whole : (f : List ℕ) (i : ℕ) → (seen f []).byte i ≡ get_or f i 0
byte_whole f i = rw (none_missing f i (ltb i (length f)) refl)
