use Rattle.exh_transfer.proofs.Told.{told}
use Rattle.exh_transfer.proofs.counting.tell_stats.Goals as goal

pub returns-clause-ends : goal.returns-clause-ends
returns-clause-ends g c = told (λ text. text.items) _ _ _ c.stats_text-text.result _ c.tell_text.ensures.told
