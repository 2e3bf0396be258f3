use Rattle.std.proofs.Common.{sym, ap, ◌∙◌}
use Rattle.std.specs.FinMap as map
use Rattle.exh_table.specs.Table.{TableMap}
use Rattle.exh_table.proofs.Seen.{get_seen}
use Rattle.exh_table.proofs.table.Table.get.Goals as goal

pub returns : goal.returns
returns c =
    c.copied.ensures ∙ c.get.ensures.value ∙ sym (get_seen c.self.inside.entries.entries c.args.prefix)
    ∙ ap (λ (table : TableMap). map.get table c.args.prefix) c.self.view_is
