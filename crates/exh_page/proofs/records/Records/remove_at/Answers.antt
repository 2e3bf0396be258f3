use Rattle.std.proofs.Common.{sym, subst}
use Rattle.exh_page.specs.Records.{IsRising}
use Rattle.exh_page.specs.RecordsLemmas.{IsRising-remove}
use Rattle.exh_page.proofs.records.Records.remove_at.Goals as goal

pub invariant_of-self : goal.invariant_of-self
invariant_of-self c = subst IsRising (sym c.remove.ensures) (IsRising-remove _ c.args.spot.index c.self.invariant)
