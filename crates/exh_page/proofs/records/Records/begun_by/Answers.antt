use Rattle.exh_page.proofs.Searched.{rising_begun}
use Rattle.exh_page.proofs.records.Records.begun_by.Goals as goal

pub invariant_of-result : goal.invariant_of-result
invariant_of-result c = rising_begun c.args.prefix _ _ c.in_ok-begun_by.ensures c.self.invariant
