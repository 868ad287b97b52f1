-- Each part is placed where the one before it ends.
use Rattle.pgm.proofs.GreyFile.{grey_file}
use Rattle.pgm.proofs.put_header.Goals as goal

pub returns : goal.returns
returns c = search grey_file
