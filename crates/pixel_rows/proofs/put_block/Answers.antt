-- L of each pixel first, then the pixels.
use Rattle.pixel_rows.proofs.Blocks.{lit_pixels}
use borrow.Author.Rules.{rules}
use Rattle.pixel_rows.proofs.put_block.Goals as goal

pub returns : goal.returns
returns c = search (lit_pixels, rules)
