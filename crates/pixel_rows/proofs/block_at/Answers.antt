-- The parts of the planes are the pixels of the row from there on.
use Rattle.pixel_rows.proofs.Blocks.{parts_asked, parts_are}
use borrow.Author.Rules.{rules}
use Rattle.pixel_rows.proofs.block_at.Goals as goal

pub put_block-requires : goal.put_block-requires
put_block-requires c = let asked = c.requires in
    parts_asked _ _ _ _ _ asked.0 asked.1 _ _ _ _ (search rules) (search rules) (search rules) (search rules)

pub returns : goal.returns
returns c = search parts_are
