use Rattle.std.proofs.Common.{◌<◌, List, length, set, sym, ◌∙◌, subst}
use Rattle.exh_page.specs.declared.page.Page.{Page}
use Rattle.exh_frames.specs.Decoded.{AreOf}
use Rattle.exh_frames.specs.FramedStore.{FramedStore}
use Rattle.exh_page.specs.Halves.{sent_to, union}
use Rattle.exh_page.specs.Page.{IsWellFormed}
use Rattle.exh_stores.specs.PageStore.{IfPage}
use Rattle.exh_frames.proofs.Followed.{page_there, set_within}
use Rattle.exh_frames.proofs.framed_pages.FramedPagesPages.merge.Goals as goal

pub merge-requires-clause-formed : goal.merge-requires-clause-formed
merge-requires-clause-formed g c =
    subst (λ (s : FramedStore g.row.K.Denot). IfPage s.pages c.args.number (λ page. IfPage s.pages c.args.buddy (λ other. IsWellFormed (g.K.Keyer.pseudokey_of s.keyer) (union c.args.parent page other)))) (sym c.self.view_is) c.requires.taken

pub invariant_of-self : goal.invariant_of-self
invariant_of-self g c =
    let pages = c.self.inside.images.pages in
    let number = c.args.number in
    let within = subst (λ (s : FramedStore g.row.K.Denot). number < length s.pages) (sym c.self.view_is) c.requires.there in
    let own = page_there pages number within in
    let buddy_within = subst (λ (s : FramedStore g.row.K.Denot). c.args.buddy < length s.pages) (sym c.self.view_is) c.requires.buddy_there in
    let other = page_there pages c.args.buddy buddy_within in
    subst (λ (l : List Page). AreOf l c.take-2.new.self) (sym (c.merge.ensures.pages own.0 own.1 other.0 other.1))
    (c.take-2.ensures.others (set pages number (union c.args.parent own.0 other.0)) (sent_to number other.0) (c.take.ensures.others pages (union c.args.parent own.0 other.0) c.self.invariant))

pub fill-requires : goal.fill-requires
fill-requires g c =
    let pages = c.self.inside.images.pages in
    let number = c.args.number in
    let within = subst (λ (s : FramedStore g.row.K.Denot). number < length s.pages) (sym c.self.view_is) c.requires.there in
    let own = page_there pages number within in
    let buddy_within = subst (λ (s : FramedStore g.row.K.Denot). c.args.buddy < length s.pages) (sym c.self.view_is) c.requires.buddy_there in
    let other = page_there pages c.args.buddy buddy_within in
    subst (λ (l : List Page). number < length l) (sym (c.merge.ensures.pages own.0 own.1 other.0 other.1)) (set_within pages number c.args.buddy number (union c.args.parent own.0 other.0) (sent_to number other.0) within)

pub fill-requires-2 : goal.fill-requires-2
fill-requires-2 g c =
    let pages = c.self.inside.images.pages in
    let number = c.args.number in
    let within = subst (λ (s : FramedStore g.row.K.Denot). number < length s.pages) (sym c.self.view_is) c.requires.there in
    let own = page_there pages number within in
    let buddy_within = subst (λ (s : FramedStore g.row.K.Denot). c.args.buddy < length s.pages) (sym c.self.view_is) c.requires.buddy_there in
    let other = page_there pages c.args.buddy buddy_within in
    subst (λ (l : List Page). c.args.buddy < length l) (sym (c.fill.ensures.pages ∙ c.merge.ensures.pages own.0 own.1 other.0 other.1)) (set_within pages number c.args.buddy c.args.buddy (union c.args.parent own.0 other.0) (sent_to number other.0) buddy_within)
