use Rattle.exh_page.proofs.Searched.{value_found, no_value_at_gap}
use Rattle.exh_page.proofs.records.Records.seek.Goals as goal

pub returns-in-Ok-clause-value : goal.returns-in-Ok-clause-value
returns-in-Ok-clause-value c = value_found c.in-Ok.ensures.1 c.self.view_is c.value.ensures

pub returns-in-Err-clause-value : goal.returns-in-Err-clause-value
returns-in-Err-clause-value c = no_value_at_gap c.in-Err.ensures.1 c.self.view_is
