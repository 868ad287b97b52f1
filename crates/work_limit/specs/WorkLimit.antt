-- The work limit (rule 5.7): upstream's bound on what an inspection charges, from the page and the limits alone.
use Rattle.std.specs.Prelude.{ℕ, ◌+◌, ◌*◌}
use Rattle.header.specs.declared.Limits.{Limits}

unfoldable pub work_bound : ℕ → Limits → ℕ
work_bound page l =
    (page + 1) * (l.max_tags + 1) + 128
    + l.max_segments * (l.max_input + 2 * l.max_output + 1)
