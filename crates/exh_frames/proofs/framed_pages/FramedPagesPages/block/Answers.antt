use Rattle.std.proofs.Common.{◌≡◌, List, slice_get, Some, sym, subst}
use Rattle.exh_page.specs.declared.page.Page.{Page}
use Rattle.exh_frames.specs.Decoded.{AreOf}
use Rattle.exh_frames.specs.FramedStore.{FramedStore}
use Rattle.exh_frames.proofs.framed_pages.FramedPagesPages.block.Goals as goal

pub invariant_of-self : goal.invariant_of-self
invariant_of-self g c = subst (λ (l : List Page). AreOf l c.self.inside.decoded) (sym c.seal.ensures.pages) c.self.invariant

pub returns-clause-block : goal.returns-clause-block
returns-clause-block g c page there =
    let inner = subst (λ (s : FramedStore g.row.K.Denot). slice_get s.pages c.args.number ≡ Some page) (sym c.self.view_is) there in
    let image = c.block.ensures page (subst (λ (l : List Page). slice_get l c.args.number ≡ Some page) (sym c.seal.ensures.pages) inner) in
    (image.whole, image.valid.in_range)
