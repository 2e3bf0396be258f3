use Rattle.std.proofs.Common.{◌≡◌, slice_get, Some, option_copied, sym, ap, ◌∙◌, subst}
use Rattle.exh_frames.specs.FramedStore.{FramedStore}
use Rattle.exh_frames.proofs.Followed.{kept_is, page_there}
use Rattle.exh_frames.proofs.framed_pages.FramedPagesPages.find.Goals as goal

pub returns-in-Some : goal.returns-in-Some
returns-in-Some g c =
    let page = c.in-Some.page.now in
    let here = sym c.get.ensures ∙ ap option_copied c.in-Some.is in
    let there = kept_is c.self.inside.images.pages c.self.inside.decoded c.args.number page c.self.invariant here in
    (page, subst (λ (s : FramedStore g.row.K.Denot). slice_get s.pages c.args.number ≡ Some page) c.self.view_is there, c.look_up.ensures)

pub returns-in-None : goal.returns-in-None
returns-in-None g c =
    let number = c.args.number in
    let own = page_there c.args.self.now.pages number c.requires.within in
    let inner = subst (λ (s : FramedStore g.row.K.Denot). slice_get s.pages number ≡ Some own.0) (sym c.self.view_is) own.1 in
    (own.0, own.1, c.find.ensures c.args.pseudokey own.0 inner (c.requires.hashed own.0 own.1))
