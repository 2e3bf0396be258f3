use Rattle.std.proofs.Common.{◌≡◌, ◌<◌, List, length, set, slice_get, Some, sym, ap, ◌∙◌, subst}
use Rattle.exh_page.specs.declared.page.Page.{Page}
use Rattle.exh_frames.specs.Decoded.{AreOf}
use Rattle.exh_frames.specs.FramedStore.{FramedStore}
use Rattle.exh_page.specs.declared.record.Record.{Record}
use Rattle.exh_frames.specs.PageImages.{put_into}
use Rattle.exh_frames.proofs.Followed.{on_ok, page_there, set_there}
use Rattle.exh_frames.proofs.framed_pages.FramedPagesPages.put_at.Goals as goal

pub put_at-requires-clause-live : goal.put_at-requires-clause-live
put_at-requires-clause-live g c =
    let there = c.in-Some.ensures.page c.self.inside.images.pages c.self.invariant in
    c.requires.live c.in-Some.page (subst (λ (s : FramedStore g.row.K.Denot). slice_get s.pages c.args.number ≡ Some c.in-Some.page) c.self.view_is there)

pub put_at-requires-clause-stood : goal.put_at-requires-clause-stood
put_at-requires-clause-stood g c =
    let there = c.in-Some.ensures.page c.self.inside.images.pages c.self.invariant in
    c.requires.stood c.in-Some.page (subst (λ (s : FramedStore g.row.K.Denot). slice_get s.pages c.args.number ≡ Some c.in-Some.page) c.self.view_is there)

pub invariant_of-self : goal.invariant_of-self
invariant_of-self g c =
    let pages = c.self.inside.images.pages in
    let number = c.args.number in
    let within = subst (λ (s : FramedStore g.row.K.Denot). number < length s.pages) (sym c.self.view_is) c.requires.there in
    let item : Record = record { pseudokey = c.args.pseudokey; key = c.args.key.now; value = c.args.value.now } in
    let page : Page = put_into item c.in-Some.page in
    let is : c.put_at.new.self ≡ page = on_ok _ c.put_at.result (sym c.is_ok.ensures.value ∙ c.if-is_ok.true) c.put_at.ensures.ok in
    subst (λ (l : List Page). AreOf l c.keep_recent.new.self) (sym (c.put.ensures.pages c.in-Some.page (c.in-Some.ensures.page pages c.self.invariant)))
    (c.keep_recent.ensures.pages (set pages number page) (set_there pages number page within ∙ ap Some (sym is)) (c.take.ensures.others pages page c.self.invariant))

-- the page that can't grow is decoded no more
pub invariant_of-self-else-is_ok : goal.invariant_of-self-else-is_ok
invariant_of-self-else-is_ok g c =
    let pages = c.self.inside.images.pages in
    let number = c.args.number in
    let within = subst (λ (s : FramedStore g.row.K.Denot). number < length s.pages) (sym c.self.view_is) c.requires.there in
    let own = page_there pages number within in
    let item : Record = record { pseudokey = c.args.pseudokey; key = c.args.key.now; value = c.args.value.now } in
    subst (λ (l : List Page). AreOf l c.take.new.self) (sym (c.put.ensures.pages own.0 own.1)) (c.take.ensures.others pages (put_into item own.0) c.self.invariant)

pub invariant_of-self-else-is_ok-2 : goal.invariant_of-self-else-is_ok-2
invariant_of-self-else-is_ok-2 g c =
    let pages = c.self.inside.images.pages in
    let number = c.args.number in
    let within = subst (λ (s : FramedStore g.row.K.Denot). number < length s.pages) (sym c.self.view_is) c.requires.there in
    let own = page_there pages number within in
    let item : Record = record { pseudokey = c.args.pseudokey; key = c.args.key.now; value = c.args.value.now } in
    subst (λ (l : List Page). AreOf l c.take.new.self) (sym (c.put.ensures.pages own.0 own.1)) (c.take.ensures.others pages (put_into item own.0) c.self.invariant)

-- none is decoded
pub invariant_of-self-in_default : goal.invariant_of-self-in_default
invariant_of-self-in_default g c =
    let pages = c.self.inside.images.pages in
    let number = c.args.number in
    let within = subst (λ (s : FramedStore g.row.K.Denot). number < length s.pages) (sym c.self.view_is) c.requires.there in
    let own = page_there pages number within in
    let item : Record = record { pseudokey = c.args.pseudokey; key = c.args.key.now; value = c.args.value.now } in
    subst (λ (l : List Page). AreOf l c.take.new.self) (sym (c.put.ensures.pages own.0 own.1)) (c.take.ensures.others pages (put_into item own.0) c.self.invariant)
