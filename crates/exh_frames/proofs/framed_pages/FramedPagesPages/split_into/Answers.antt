use Rattle.std.proofs.Common.{◌<◌, List, length, set, sym, ◌∙◌, subst}
use Rattle.exh_page.specs.declared.page.Page.{Page}
use Rattle.exh_frames.specs.Decoded.{AreOf}
use Rattle.exh_frames.specs.FramedStore.{FramedStore}
use Rattle.exh_page.specs.Halves.{left_half, right_half}
use Rattle.exh_frames.proofs.Followed.{page_there, set_within}
use Rattle.exh_frames.proofs.framed_pages.FramedPagesPages.split_into.Goals as goal

pub invariant_of-self : goal.invariant_of-self
invariant_of-self g c =
    let pages = c.self.inside.images.pages in
    let number = c.args.number in
    let within = subst (λ (s : FramedStore g.row.K.Denot). number < length s.pages) (sym c.self.view_is) c.requires.there in
    let own = page_there pages number within in
    subst (λ (l : List Page). AreOf l c.take-2.new.self) (sym (c.split_into.ensures.pages own.0 own.1))
    (c.take-2.ensures.others (set pages number (left_half c.args.right own.0)) (right_half own.0) (c.take.ensures.others pages (left_half c.args.right own.0) c.self.invariant))

pub fill-requires : goal.fill-requires
fill-requires g c =
    let pages = c.self.inside.images.pages in
    let number = c.args.number in
    let within = subst (λ (s : FramedStore g.row.K.Denot). number < length s.pages) (sym c.self.view_is) c.requires.there in
    let own = page_there pages number within in
    subst (λ (l : List Page). number < length l) (sym (c.split_into.ensures.pages own.0 own.1)) (set_within pages number c.args.right number (left_half c.args.right own.0) (right_half own.0) within)

pub fill-requires-2 : goal.fill-requires-2
fill-requires-2 g c =
    let pages = c.self.inside.images.pages in
    let number = c.args.number in
    let within = subst (λ (s : FramedStore g.row.K.Denot). number < length s.pages) (sym c.self.view_is) c.requires.there in
    let own = page_there pages number within in
    let right_within = subst (λ (s : FramedStore g.row.K.Denot). c.args.right < length s.pages) (sym c.self.view_is) c.requires.right_there in
    subst (λ (l : List Page). c.args.right < length l) (sym (c.fill.ensures.pages ∙ c.split_into.ensures.pages own.0 own.1)) (set_within pages number c.args.right c.args.right (left_half c.args.right own.0) (right_half own.0) right_within)
