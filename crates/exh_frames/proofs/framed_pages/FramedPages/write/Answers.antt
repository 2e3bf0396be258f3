use Rattle.std.proofs.Common.{◌<◌, List, length, sym, subst}
use Rattle.exh_page.specs.declared.page.Page.{Page}
use Rattle.exh_frames.specs.Decoded.{AreOf}
use Rattle.exh_frames.specs.FramedStore.{FramedStore}
use Rattle.exh_frames.proofs.Followed.{written}
use Rattle.exh_frames.proofs.framed_pages.FramedPages.write.Goals as goal

pub invariant_of-self : goal.invariant_of-self
invariant_of-self g c =
    let pages = c.self.inside.images.pages in
    let number = c.args.number in
    let within = subst (λ (s : FramedStore g.row.K.Denot). number < length s.pages) (sym c.self.view_is) c.requires.there in
    let others = c.take.ensures.others pages c.args.page c.self.invariant in
    subst (λ (l : List Page). AreOf l c.keep_recent.new.self) (sym c.set.ensures.pages)
    (written pages c.take.new.self c.keep_recent.new.self number c.args.page within others (λ all there are. c.keep_recent.ensures.pages all there are))
