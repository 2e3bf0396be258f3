use Rattle.std.proofs.Common.{◌≡◌, List, ℕ, Some, ap, ◌∙◌}
use Rattle.exh_calls.specs.Effect.{sets_new}
use Rattle.exh_calls.specs.declared.call.Call.TheVariants.{Del}
use Rattle.exh_page.specs.declared.page.Page.{Page}
use Rattle.exh_change.specs.Changes.{Settles}
use Rattle.exh_change.specs.Leaves.{leaf_of}
use Rattle.exh_change.proofs.Homes.{match_more}
use Rattle.exh_change.proofs.changing.settle.Goals as goal

pub returns-in-Del-clause-legal : goal.returns-in-Del-clause-legal
returns-in-Del-clause-legal g c base file knows is tables old old_tables legal small legal_old same leaf =
    let place = c.args.home.now.place in
    let draft = c.args.draft.now in
    match_more c.merge.result (λ _. Settles base file place draft c.merge.new.draft) (λ _. (key : List ℕ) → c.args.call.now ≡ Del key → Settles base file place draft c.merge.new.draft)
    (λ _ (settles : Settles base file place draft c.merge.new.draft) key del. settles)
    (c.merge.ensures.legal base file knows is tables old old_tables legal small legal_old (same (ap sets_new c.in-Del.is)) (leaf ∙ ap (λ (page : Page). Some (leaf_of page)) c.prefix_of.ensures.2))
