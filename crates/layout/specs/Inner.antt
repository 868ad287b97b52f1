-- What only the code's own functions leave: the sizes that step 7 counts, or its refusal.
use Rattle.std.specs.Prelude.{ℕ, Result}
use Rattle.checks.specs.Checks.{verdict, giving}
use Rattle.checks.specs.declared.Refusal.{Refusal}
use Rattle.profile.specs.Profile.{across_of, segments_of, output_of, step7}
use Rattle.profile.specs.declared.Shape.{Shape}
use Rattle.layout.specs.declared.Counts.{Counts}

abbrev pub sizes_of : Shape → Counts
sizes_of s = record { across = across_of s; segments = segments_of s; output = output_of s }

unfoldable pub counted_of : Shape → ℕ → ℕ → Result Counts Refusal
counted_of s maxSegments maxOutput = giving (verdict (step7 s maxSegments maxOutput)) (sizes_of s)
