-- The sum has the bytes of the four samples.
use Rattle.std.proofs.Common.{arith, ◌∙◌}
use Rattle.pixel.proofs.Stores.{samples_stored}
use Rattle.pixel.proofs.put_samples.Goals as goal

pub returns : goal.returns
returns c =
    samples_stored _ _ _ _ _ _ (omega arith) (omega arith) (omega arith) (omega arith) (omega arith) (c.copy_from_slice.ensures.after ∙ c.to_le_bytes.ensures)
