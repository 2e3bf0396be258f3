use Rattle.std.proofs.Common.{subst, ◌∙◌}
use Rattle.exh_page.specs.Search.{IsSought}
use Rattle.exh_page.specs.SearchLemmas.{remove_found, same_at_gap}
use Rattle.exh_page.proofs.records.Records.remove.Goals as goal

pub returns-in-Ok-clause-others : goal.returns-in-Ok-clause-others
returns-in-Ok-clause-others c =
    let sought = subst (IsSought (c.args.pseudokey, c.args.key.now) c.args.self.now) c.in-Ok.is c.seek-spot.ensures.spot in
    c.remove_at.ensures ∙ remove_found sought.1

pub returns-in_default-clause-others : goal.returns-in_default-clause-others
returns-in_default-clause-others c =
    let sought = subst (IsSought (c.args.pseudokey, c.args.key.now) c.args.self.now) c.in_default.is c.seek-spot.ensures.spot in
    same_at_gap sought.1
