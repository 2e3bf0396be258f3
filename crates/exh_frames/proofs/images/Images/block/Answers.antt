use Rattle.std.proofs.Common.{◌≡◌, ◌<◌, length, slice_get, Some, sym, subst}
use Rattle.exh_prefix.specs.Layout.{written_version}
use Rattle.exh_codec.specs.PageImage.{IsImage}
use Rattle.exh_frames.specs.PageImages.{ImageList}
use Rattle.exh_frames.proofs.Kept.{laid_at, laid_alike}
use Rattle.exh_frames.proofs.images.Images.block.Goals as goal

pub returns : goal.returns
returns g c page there =
    let pseudo = g.K.Keyer.pseudokey_of c.self.inside.keyer in
    let image = c.index-image.result.now in
    let block = c.sealed_block.result in
    let within = subst (λ (l : ImageList g.row.K.Denot). c.args.number < length l.pages) (sym c.self.view_is) c.requires in
    let is = subst (λ (l : ImageList g.row.K.Denot). slice_get l.pages c.args.number ≡ Some page) (sym c.self.view_is) there in
    let laid = laid_at pseudo c.self.inside.images.items c.args.number image page within c.index-image.ensures c.self.invariant is in
    let sealed = (c.images_are_sealed.ensures written_version pseudo page block).1 (laid_alike pseudo page image.block block c.sealed_block.ensures.content laid, c.sealed_block.ensures.sealed) in
    subst (λ (l : ImageList g.row.K.Denot). IsImage written_version (g.K.Keyer.pseudokey_of l.keyer) page block) c.self.view_is sealed
