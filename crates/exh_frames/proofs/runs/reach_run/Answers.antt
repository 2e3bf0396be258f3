use Rattle.std.proofs.Common.{List, [], ◌∷◌, ◌++◌, sym, ap, ◌∙◌, subst}
use Rattle.std.specs.Global.{Vec}
use Rattle.exh_frames.specs.Runs.{AreRuns, items_in}
use Rattle.exh_frames.proofs.InRuns.{are_more, items_more}
use Rattle.exh_frames.proofs.runs.reach_run.Goals as goal

pub returns-clause-runs : goal.returns-clause-runs
returns-clause-runs g c len are =
    let run = c.in_ok-with_capacity.field-0 in
    let items = c.push_reserved.ensures.items ∙ ap (λ (l : List (Vec g.row.T.Denot)). l ++ run ∷ []) c.reserve.ensures.items in
    subst (λ (l : List (Vec g.row.T.Denot)). AreRuns l len) (sym items) (are_more c.args.runs.now.items len run (c.in_ok-with_capacity.ensures).len are)

pub returns-clause-items : goal.returns-clause-items
returns-clause-items g c =
    let run = c.in_ok-with_capacity.field-0 in
    let items = c.push_reserved.ensures.items ∙ ap (λ (l : List (Vec g.row.T.Denot)). l ++ run ∷ []) c.reserve.ensures.items in
    ap (λ (l : List (Vec g.row.T.Denot)). items_in l) items ∙ items_more c.args.runs.now.items run (c.in_ok-with_capacity.ensures).items
