use Rattle.exh_run.specs.SaidLemmas.{said}
use Rattle.exh_transfer.proofs.exporting.tell_pairs.Goals as goal

pub returns-clause-ends : goal.returns-clause-ends
returns-clause-ends g c = said (λ text. text.items) _ _ _ c.export_text-text.result _ _ _ c.export_text-text.ensures c.tell_text.ensures.told
