use Rattle.exh_legal.proofs.SplitReady.{splittable}
use Rattle.exh_legal.proofs.laws.live_pages_split.Goals as goal

pub returns : goal.returns
returns c cap pseudo ward start changes table pages prefix number is live short = splittable pages is.legal.legal.linked is.fits number live short
