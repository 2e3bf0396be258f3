use Rattle.exh_transfer.specs.SaidLemmas.{said}
use Rattle.exh_everyday.proofs.get.tell_value.Goals as goal

pub returns-clause-ends : goal.returns-clause-ends
returns-clause-ends g c = said (λ text. text.items) _ _ _ c.value_text-text.result _ _ _ c.value_text-text.ensures c.tell_text.ensures.told
