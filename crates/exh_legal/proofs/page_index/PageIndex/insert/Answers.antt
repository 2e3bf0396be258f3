use Rattle.std.proofs.Common.{ap, ◌∙◌}
use Rattle.std.specs.FinMap as map
use Rattle.exh_legal.specs.PageIndex.{IndexMap}
use Rattle.exh_legal.proofs.IndexSeen.{insert_seen}
use Rattle.exh_legal.proofs.page_index.PageIndex.insert.Goals as goal

pub returns-clause-ok : goal.returns-clause-ok
returns-clause-ok c =
    insert_seen c.self.inside.numbers c.insert.new.self c.args.low c.args.number c.in_ok-insert.ensures.updates
    ∙ ap (λ (index : IndexMap). map.insert index c.args.low c.args.number) c.self.view_is
