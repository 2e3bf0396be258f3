use Rattle.exh_run.specs.SaidLemmas.{said}
use Rattle.exh_transfer.proofs.compacting.tell_counts.Goals as goal

pub returns-clause-ends : goal.returns-clause-ends
returns-clause-ends g c = said (λ text. text.items) _ _ _ c.counts_line-line.result _ _ _ c.counts_line-line.ensures c.tell_text.ensures.told
