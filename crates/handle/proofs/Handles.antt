-- Two handles are equal exactly if each of their fields is.
use Prim.Native.Nat.{ℕ}
use mathlib.Core.Path.{◌≡◌, refl, sym, ◌∙◌}
use mathlib.Core.Bool.{Bool, true, false, ◌&&◌}
use lib.Dec.{eqb}
use Rattle.std.proofs.Math.Bool.{beq, and_assoc, and-false}
use borrow.Author.Tests.{eqb-true, eq-eqb, not-true}
use Rattle.seen.proofs.Blocks.{true_false}
use Rattle.picture.specs.declared.Format.{Format}
use Rattle.handle.specs.declared.Handle.{Handle}
use Rattle.handle.specs.Handle.{same_bool, same_sides, same_cut, same_entries, same_format, same_handle}

-- the derived test of a flag is that of the definitions
flag_compared : (a b : Bool) → beq a b ≡ same_bool a b
flag_compared true true = refl
flag_compared true false = refl
flag_compared false true = refl
flag_compared false false = refl

-- sixteen tests one after the other are the same in the groups of the definitions
regrouped : (a b c d e f g h i j k l m n o p : Bool)
    → (a && (b && (c && (d && (e && (f && (g && (h && (i && (j && (k && (l && m)))))))))))) && (n && (o && p))
    ≡ (a && b && c && d) && (k && e && f && g) && (l && h && i && j) && m && n && o && p
regrouped a b c d e f g h i j true true m n o p = simp and_assoc
regrouped a b c d e f g h i j true false m n o p = simp and-false
regrouped a b c d e f g h i j false l m n o p = simp and-false

-- the derived test of two handles compares their fields in the order in which they stand
pub compared : (g h : Handle) {r : Bool}
    → r
    ≡ (eqb g.format.width h.format.width
    && (eqb g.format.height h.format.height
    && (eqb g.format.block_width h.format.block_width
    && (eqb g.format.block_height h.format.block_height
    && (eqb g.format.across h.format.across
    && (eqb g.format.segments h.format.segments
    && (eqb g.format.output h.format.output
    && (eqb g.format.offsets h.format.offsets
    && (eqb g.format.counts h.format.counts
    && (eqb g.format.entries h.format.entries
    && (beq g.format.tiled h.format.tiled
    && (beq g.format.big h.format.big
    && beq g.format.mono h.format.mono))))))))))))
    && (eqb g.page h.page && (eqb g.scratch h.scratch && eqb g.work h.work))
    → r ≡ same_handle g h
unfolding same_handle same_format same_sides same_cut same_entries
compared g h e = e ∙ simp (flag_compared, regrouped)

-- equal handles
all_hold : (a b c d : Bool) → a && b && c && d ≡ true → (a ≡ true) × (b ≡ true) × (c ≡ true) × (d ≡ true)
all_hold true true true true e = (refl, refl, refl, refl)
all_hold true true true false e = absurd (true_false e refl)
all_hold true true false d e = absurd (true_false e refl)
all_hold true false c d e = absurd (true_false e refl)
all_hold false b c d e = absurd (true_false e refl)

bool_is : (a b : Bool) → same_bool a b ≡ true → a ≡ b
bool_is true b e = sym e
bool_is false b e = sym (not-true b e)

format_same : (f g : Format) → same_format f g ≡ true → f ≡ g
unfolding same_format same_sides same_cut same_entries
format_same f g e =
    let parts = all_hold (same_sides f g) (same_cut f g) (same_entries f g) (same_bool f.mono g.mono) e in
    let sides =
    all_hold (eqb f.width g.width) (eqb f.height g.height) (eqb f.block_width g.block_width) (eqb f.block_height g.block_height)
    parts.0 in
    let cut =
    all_hold (same_bool f.tiled g.tiled) (eqb f.across g.across) (eqb f.segments g.segments) (eqb f.output g.output) parts.1 in
    let rest =
    all_hold (same_bool f.big g.big) (eqb f.offsets g.offsets) (eqb f.counts g.counts) (eqb f.entries g.entries) parts.2 in
    λ i. record {
      width = eqb-true f.width g.width sides.0 i;
      height = eqb-true f.height g.height sides.1 i;
      block_width = eqb-true f.block_width g.block_width sides.2 i;
      block_height = eqb-true f.block_height g.block_height sides.3 i;
      tiled = bool_is f.tiled g.tiled cut.0 i;
      across = eqb-true f.across g.across cut.1 i;
      segments = eqb-true f.segments g.segments cut.2 i;
      output = eqb-true f.output g.output cut.3 i;
      big = bool_is f.big g.big rest.0 i;
      offsets = eqb-true f.offsets g.offsets rest.1 i;
      counts = eqb-true f.counts g.counts rest.2 i;
      entries = eqb-true f.entries g.entries rest.3 i;
      mono = bool_is f.mono g.mono parts.3 i;
    }

pub same_is : (g h : Handle) → same_handle g h ≡ true → g ≡ h
unfolding same_handle
same_is g h e =
    let parts =
    all_hold (same_format g.format h.format) (eqb g.page h.page) (eqb g.scratch h.scratch) (eqb g.work h.work) e in
    λ i. record {
      format = format_same g.format h.format parts.0 i;
      page = eqb-true g.page h.page parts.1 i;
      scratch = eqb-true g.scratch h.scratch parts.2 i;
      work = eqb-true g.work h.work parts.3 i;
    }

itself : (n : ℕ) → eqb n n ≡ true
itself n = eq-eqb n n refl

bool_itself : (b : Bool) → same_bool b b ≡ true
bool_itself true = refl
bool_itself false = refl

pub same_self : (h : Handle) → same_handle h h ≡ true
unfolding same_handle same_format same_sides same_cut same_entries
same_self h = simp (itself, bool_itself)
