-- What a segment of either head needs and costs by its area A, which is block width × rows.
use Rattle.std.specs.Prelude.{ℕ, ◌+◌, ◌*◌}
use Rattle.head.specs.Heads.{Head, planes_of, bytes_of}

module _ (head : Head) where
  -- needed are pA bytes (rule 4.4)
  abbrev pub needed_for : ℕ → ℕ
  needed_for area = planes_of head * area

  -- scratch is (p + b)A (rules 4.2 d and 7.3)
  abbrev pub scratch_for : ℕ → ℕ
  scratch_for area = (planes_of head + bytes_of head) * area

  -- fee = count + 2(p + b)A + 1 (rule 5.3)
  abbrev pub fee : ℕ → ℕ → ℕ
  fee count area = count + 2 * scratch_for area + 1
