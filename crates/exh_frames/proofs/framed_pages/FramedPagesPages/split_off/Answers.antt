use Rattle.std.proofs.Common.{◌<◌, List, [], ◌∷◌, length, set, sym, ◌∙◌, subst, arith}
use Rattle.exh_page.specs.declared.page.Page.{Page}
use Rattle.exh_frames.specs.Decoded.{AreOf}
use Rattle.exh_frames.specs.FramedStore.{FramedStore}
use Rattle.exh_page.specs.Halves.{left_half, right_half}
use Rattle.exh_frames.proofs.Followed.{added_within, kept_more, page_there}
use Rattle.exh_frames.proofs.framed_pages.FramedPagesPages.split_off.Goals as goal

pub invariant_of-self-2 : goal.invariant_of-self-2
invariant_of-self-2 g c =
    let pages = c.self.inside.images.pages in
    let number = c.args.number in
    let within = subst (λ (s : FramedStore g.row.K.Denot). number < length s.pages) (sym c.self.view_is) c.requires.there in
    let own = page_there pages number within in
    let left = left_half (length pages) own.0 in
    subst (λ (l : List Page). AreOf l c.take.new.self) (sym (c.in_ok-split_off.ensures.ok own.0 own.1))
    (kept_more (set pages number left) (right_half own.0 ∷ []) c.take.new.self (c.take.ensures.others pages left c.self.invariant))

pub fill-requires : goal.fill-requires
fill-requires g c =
    let pages = c.self.inside.images.pages in
    let number = c.args.number in
    let within = subst (λ (s : FramedStore g.row.K.Denot). number < length s.pages) (sym c.self.view_is) c.requires.there in
    let own = page_there pages number within in
    subst (λ (l : List Page). number < length l) (sym (c.in_ok-split_off.ensures.ok own.0 own.1)) (added_within pages number number (left_half (length pages) own.0) (right_half own.0) (omega (arith, within)))

pub fill-requires-2 : goal.fill-requires-2
fill-requires-2 g c =
    let pages = c.self.inside.images.pages in
    let number = c.args.number in
    let within = subst (λ (s : FramedStore g.row.K.Denot). number < length s.pages) (sym c.self.view_is) c.requires.there in
    let own = page_there pages number within in
    subst (λ (l : List Page). c.count-right.result < length l) (sym (c.fill.ensures.pages ∙ c.in_ok-split_off.ensures.ok own.0 own.1))
    (added_within pages number c.count-right.result (left_half (length pages) own.0) (right_half own.0) (omega (arith, c.count-right.ensures)))
