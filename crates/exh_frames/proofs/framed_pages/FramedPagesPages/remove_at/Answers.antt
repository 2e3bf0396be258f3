use Rattle.std.proofs.Common.{◌<◌, List, length, set, Some, sym, ap, ◌∙◌, subst}
use Rattle.exh_page.specs.declared.page.Page.{Page}
use Rattle.exh_frames.specs.Decoded.{AreOf}
use Rattle.exh_frames.specs.FramedStore.{FramedStore}
use Rattle.exh_frames.specs.PageImages.{taken_out}
use Rattle.exh_frames.proofs.Followed.{page_there, set_there}
use Rattle.exh_frames.proofs.framed_pages.FramedPagesPages.remove_at.Goals as goal

pub invariant_of-self : goal.invariant_of-self
invariant_of-self g c =
    let pages = c.self.inside.images.pages in
    let number = c.args.number in
    let within = subst (λ (s : FramedStore g.row.K.Denot). number < length s.pages) (sym c.self.view_is) c.requires.there in
    let page : Page = taken_out c.args.spot.index c.in-Some.page in
    subst (λ (l : List Page). AreOf l c.keep_recent.new.self) (sym (c.remove.ensures.pages c.in-Some.page (c.in-Some.ensures.page pages c.self.invariant)))
    (c.keep_recent.ensures.pages (set pages number page) (set_there pages number page within ∙ ap Some (sym c.remove_at.ensures)) (c.take.ensures.others pages page c.self.invariant))

-- none is decoded
pub invariant_of-self-in_default : goal.invariant_of-self-in_default
invariant_of-self-in_default g c =
    let pages = c.self.inside.images.pages in
    let number = c.args.number in
    let within = subst (λ (s : FramedStore g.row.K.Denot). number < length s.pages) (sym c.self.view_is) c.requires.there in
    let own = page_there pages number within in
    subst (λ (l : List Page). AreOf l c.take.new.self) (sym (c.remove.ensures.pages own.0 own.1)) (c.take.ensures.others pages (taken_out c.args.spot.index own.0) c.self.invariant)
