use Rattle.std.proofs.Common.{◌≡◌, ◌<◌, length, slice_get, Some, sym, subst}
use Rattle.exh_prefix.specs.declared.version.TheConstants.{WRITTEN}
use Rattle.exh_page.specs.PageHead.{head_of}
use Rattle.exh_frames.specs.PageImages.{ImageList, page_in}
use Rattle.exh_frames.proofs.Kept.{kept_at}
use Rattle.exh_frames.proofs.images.Images.head.Goals as goal

pub unreachable-requires : goal.unreachable-requires
unreachable-requires g c =
    let pseudo = g.K.Keyer.pseudokey_of c.self.inside.keyer in
    let image = c.index-image.result.now in
    let within = subst (λ (l : ImageList g.row.K.Denot). c.args.number < length l.pages) (sym c.self.view_is) c.requires in
    let kept = kept_at pseudo c.self.inside.images.items c.args.number image within c.index-image.ensures c.self.invariant in
    let some = c.decode_head.ensures WRITTEN pseudo (page_in pseudo image) kept.1 in
    let none = c.in-None.is in
    absurd cc

pub returns : goal.returns
returns g c =
    let pseudo = g.K.Keyer.pseudokey_of c.self.inside.keyer in
    let image = c.index-image.result.now in
    let page = page_in pseudo image in
    let within = subst (λ (l : ImageList g.row.K.Denot). c.args.number < length l.pages) (sym c.self.view_is) c.requires in
    let kept = kept_at pseudo c.self.inside.images.items c.args.number image within c.index-image.ensures c.self.invariant in
    let some = c.decode_head.ensures WRITTEN pseudo page kept.1 in
    let is = c.in-Some.is in
    let head : c.in-Some.head ≡ head_of page = cc in
    (page, subst (λ (l : ImageList g.row.K.Denot). slice_get l.pages c.args.number ≡ Some page) c.self.view_is kept.0, head)
