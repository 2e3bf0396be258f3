use Rattle.std.proofs.Common.{Option, sym, subst}
use Rattle.std.specs.Prelude.{IfNone, IfSome}
use Rattle.std.proofs.lemmas.Result.{IfOk-weaker}
use Rattle.exh_prefix.specs.Layout.{written_version}
use Rattle.exh_keyer.specs.Pseudokey.{any_pseudokey}
use Rattle.exh_page.specs.declared.page.Page.{Page}
use Rattle.exh_codec.specs.PageImage.{IsImage}
use Rattle.exh_salvage.specs.SavedBlock.{IsOfBlock}
use Rattle.exh_salvage.proofs.saved.page_under.Goals as goal

pub returns-in-Ok-clause-some : goal.returns-in-Ok-clause-some
returns-in-Ok-clause-some c = (c.images_are_sealed.ensures written_version (any_pseudokey c.args.keyer) c.in-Ok.page c.args.block.now).1 (c.in-Ok.ensures.page, c.requires)

pub returns-in-Err-clause-some : goal.returns-in-Err-clause-some
returns-in-Err-clause-some c =
    let Is : Page → Type 0 = λ (page : Page). IsImage written_version (any_pseudokey c.args.keyer) page c.args.block.now in
    IfOk-weaker c.none_by.result _ _ (λ found none. subst (λ (found : Option Page). IfSome found Is) (sym none.0) tt) c.none_by.ensures

pub returns-in-Err-clause-none : goal.returns-in-Err-clause-none
returns-in-Err-clause-none c =
    let Is : Page → Type 0 = λ (page : Page). IsImage written_version (any_pseudokey c.args.keyer) page c.args.block.now in
    let refused : IsOfBlock c.in-Err.fault → (page : Page) → Is page → ⊥ = λ of page image.
    subst IsOfBlock (c.in-Err.ensures.only page ((c.images_are_sealed.ensures written_version (any_pseudokey c.args.keyer) page c.args.block.now).0 image).0) of in
    IfOk-weaker c.none_by.result _ _ (λ found none. subst (λ (found : Option Page). IfNone found ((page : Page) → Is page → ⊥)) (sym none.0) (refused none.1)) c.none_by.ensures
