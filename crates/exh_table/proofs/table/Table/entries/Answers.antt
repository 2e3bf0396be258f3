use Rattle.std.proofs.Common.{sym, ap, ◌∙◌}
use Rattle.std.specs.FinMap as map
use Rattle.exh_table.specs.Table.{TableMap}
use Rattle.exh_table.proofs.Seen.{entries_seen}
use Rattle.exh_table.proofs.table.Table.entries.Goals as goal

pub returns : goal.returns
returns c =
    c.iter.ensures.rest ∙ sym (entries_seen c.self.inside.entries.entries c.iter.ensures.ordered)
    ∙ ap (λ (table : TableMap). map.entries table) c.self.view_is
