use Rattle.std.proofs.Common.{ap, ◌∙◌}
use Rattle.std.specs.FinMap as map
use Rattle.exh_legal.specs.PageIndex.{IndexMap}
use Rattle.exh_legal.proofs.IndexSeen.{remove_seen}
use Rattle.exh_legal.proofs.page_index.PageIndex.remove.Goals as goal

pub returns : goal.returns
returns c = remove_seen c.self.inside.numbers c.remove.new.self c.args.low c.remove.ensures.updates ∙ ap (λ (index : IndexMap). map.remove index c.args.low) c.self.view_is
