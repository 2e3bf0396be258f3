use Rattle.exh_transfer.proofs.Lines.{said_so}
use Rattle.exh_transfer.proofs.salvaging.tell_pairs.Goals as goal

pub returns-clause-ends : goal.returns-clause-ends
returns-clause-ends g c = said_so (λ text. text.items) _ _ _ c.salvage_text-text.result _ _ _ _ c.salvage_status.ensures c.salvage_text-text.ensures c.tell_text.ensures.told
