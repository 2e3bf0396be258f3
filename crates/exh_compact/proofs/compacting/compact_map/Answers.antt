use Rattle.exh_compact.proofs.CompactLemmas.{compacted_if}
use Rattle.exh_compact.proofs.compacting.compact_map.Goals as goal

pub returns-in-Ok-clause-compacted : goal.returns-in-Ok-clause-compacted
returns-in-Ok-clause-compacted g c = compacted_if c.args.map.now c.args.settings c.in-Ok.pairs c.in-Ok.ensures.pairs c.in-Ok.ensures.map c.filled.result c.filled.ensures.filled
