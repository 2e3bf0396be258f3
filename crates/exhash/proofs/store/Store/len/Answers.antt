use Rattle.std.proofs.Common.{rules}
use Rattle.exh_map.proofs.OnceLemmas.{counted}
use Rattle.exhash.proofs.store.Store.len.Goals as goal

pub returns-clause-map : goal.returns-clause-map
returns-clause-map c whole has = counted c.in_ok-pairs.field-0 c.len-2.result whole (search rules) c.in_ok-pairs.ensures.once (c.in_ok-pairs.ensures.map whole has)
