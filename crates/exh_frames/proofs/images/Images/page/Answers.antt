use Rattle.std.proofs.Common.{◌≡◌, ◌<◌, length, slice_get, Some, sym, subst}
use Rattle.exh_frames.specs.PageImages.{ImageList, page_in}
use Rattle.exh_frames.proofs.Kept.{kept_at, page_given}
use Rattle.exh_frames.proofs.images.Images.page.Goals as goal

pub page-requires : goal.page-requires
page-requires g c =
    let pseudo = g.K.Keyer.pseudokey_of c.self.inside.keyer in
    let images = c.self.inside.images.items in
    let image = c.index-image.result.now in
    let within = subst (λ (l : ImageList g.row.K.Denot). c.args.number < length l.pages) (sym c.self.view_is) c.requires in
    let kept = kept_at pseudo images c.args.number image within c.index-image.ensures c.self.invariant in
    (pseudo, kept.1, kept.2)

pub returns : goal.returns
returns g c =
    let pseudo = g.K.Keyer.pseudokey_of c.self.inside.keyer in
    let images = c.self.inside.images.items in
    let image = c.index-image.result.now in
    let within = subst (λ (l : ImageList g.row.K.Denot). c.args.number < length l.pages) (sym c.self.view_is) c.requires in
    let kept = kept_at pseudo images c.args.number image within c.index-image.ensures c.self.invariant in
    let there = subst (λ (l : ImageList g.row.K.Denot). slice_get l.pages c.args.number ≡ Some (page_in pseudo image)) c.self.view_is kept.0 in
    page_given c.args.self.now.pages c.args.number (page_in pseudo image) c.page.result there (c.page.ensures pseudo kept.1 kept.2)
