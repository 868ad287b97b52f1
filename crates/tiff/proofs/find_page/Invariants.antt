use Rattle.seen.specs.Seen.{seen}
use Rattle.tiff.proofs.Pages.{Walking}
use Rattle.tiff.proofs.find_page.Given as goal

abbrev pub invariant-loop-found : goal.invariant-loop-found
invariant-loop-found l = Walking (seen l.file l.map) l.big l.max_tags l.page l.first l.left l.ahead l.at l.rest

abbrev pub decreases-loop-found : goal.decreases-loop-found
decreases-loop-found l = l.ahead
