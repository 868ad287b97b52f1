-- A row gathered sample by sample: byte b of sample s, so many bytes each, comes from the place that the definition names for byte s * bytes + b.
use Rattle.std.proofs.Common.{◌≡◌, ℕ, ◌+◌, ◌*◌, ◌/◌, ◌%◌, ◌<◌, ◌≤◌, ◌≢◌, Bool, List, length, get_or, set, sym, ◌∙◌, mul-div_cancel, arith, below_more, get_or-set_same, get_or-set_other}
use lib.Arith.{digits_div, digits_mod}
use lib.Seq.{ext_get_or}
use lib.ListN.{length-set}
use Rattle.fp_rows.specs.FpRows.{plane, gathered_row}
use Rattle.lists.proofs.Overlay.{length_span, get_d_tabulate}

-- the place in a row of planes that byte k of the gathered row is taken from, and that byte
abbrev pub source : Bool → ℕ → ℕ → ℕ → ℕ
source little bytes size k = plane little bytes (k % bytes) * (size / bytes) + k / bytes

abbrev byte_at : ℕ → Bool → List ℕ → ℕ → ℕ
byte_at bytes little row k = get_or row (source little bytes (length row) k) 0

-- the first k bytes are there
pub record Gathering (row : List ℕ) (bytes : ℕ) (little : Bool) (out : List ℕ) (k : ℕ) : Type 0 where
  pub long : length out ≡ length row
  pub done : (i : ℕ) → i < k → get_or out i 0 ≡ byte_at bytes little row i

module _ (row : List ℕ) (bytes : ℕ) (little : Bool) (out : List ℕ) where
  pub gathering_more : (samples s b p : ℕ) → Gathering row bytes little out (s * bytes + b) → length row ≡ samples * bytes → b < bytes
      → s * bytes + b < length out
      → p ≡ plane little bytes b
      → Gathering row bytes little (set out (s * bytes + b) (get_or row (p * samples + s) 0)) (s * bytes + (b + 1))
  gathering_more samples s b p g e h l q =
      let positive : 0 < bytes = omega arith in
      let d : length row / bytes ≡ samples = rw e (mul-div_cancel samples positive) in
      let v-is : get_or row (p * samples + s) 0 ≡ byte_at bytes little row (s * bytes + b) = rw (q, d, digits_div s h, digits_mod s h) in
      let k = s * bytes + b in
      let here = get_or row (p * samples + s) 0 in
      let below : (i : ℕ) → i < k → get_or (set out k here) i 0 ≡ byte_at bytes little row i =
      λ i u. let ne : i ≢ k = omega arith in rw get_or-set_other (g.done i u) in
      let more = below_more (λ i. get_or (set out k here) i 0 ≡ byte_at bytes little row i) k below (rw get_or-set_same v-is) in
      record { long = length-set out k here ∙ g.long; done = λ i t. more i (omega arith) }

  pub gathering_all : (k : ℕ) → Gathering row bytes little out k → length row ≤ k → out ≡ gathered_row (length row) bytes little row
  unfolding gathered_row
  gathering_all k g h =
      ext_get_or 0 out _ (g.long ∙ sym (length_span _ 0 (length row)))
      (λ i l. g.done i (omega (arith, g.long)) ∙ sym (get_d_tabulate (byte_at bytes little row) (length row) i (rw g.long at l)))
