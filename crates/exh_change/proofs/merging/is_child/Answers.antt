use Rattle.std.proofs.Common.{◌≡◌, ◌↔◌, [], ◌∷◌, ◌++◌, sym, ◌∙◌, subst}
use Rattle.std.specs.Prelude.{IsTrue}
use Rattle.exh_prefix.specs.PrefixLemmas.{prefix_eq-exact}
use Rattle.exh_page.specs.declared.page.Page.{Page}
use Rattle.exh_change.specs.Changes.{IsOfPrefix}
use Rattle.exh_change.proofs.merging.is_child.Goals as goal

pub returns-in-Live : goal.returns-in-Live
returns-in-Live c =
    let child : c.unwrap-child.result ≡ c.args.parent ++ c.args.bit ∷ [] = (rw c.unwrap-child.ensures at c.child.ensures).1 in
    let same = prefix_eq-exact c.in-Live.prefix c.unwrap-child.result in
    subst (λ (page : Page). IsTrue c.eq.result ↔ IsOfPrefix (c.args.parent ++ c.args.bit ∷ []) page) (sym c.in-Live.is)
    ((λ test. same.0 (sym c.eq.ensures ∙ test) ∙ child), (λ is. c.eq.ensures ∙ same.1 (is ∙ sym child)))
