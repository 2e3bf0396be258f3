use Rattle.std.proofs.Common.{◌≡◌, ◌-◌, ◌^◌, ◌<◌, List, [], ◌∷◌, ◌++◌, length, sym, ap, ◌∙◌, subst}
use Rattle.exh_prefix.specs.Layout.{written_version}
use Rattle.exh_codec.specs.PageImage.{IsImage, IsLaidOut}
use Rattle.exh_codec.specs.PageImageLemmas.{few_records}
use Rattle.exh_frames.specs.declared.image.Image.{Image}
use Rattle.exh_frames.specs.PageImages.{AreKept, ImageList, pages_in}
use Rattle.exh_frames.proofs.Changed.{shown}
use Rattle.exh_frames.proofs.Kept.{kept_added, pages_added}
use Rattle.exh_frames.proofs.images.Images.add_block.Goals as goal

pub of_block-requires-clause-sealed : goal.of_block-requires-clause-sealed
of_block-requires-clause-sealed g c = ((c.images_are_sealed.ensures written_version (g.K.Keyer.pseudokey_of c.args.self.now.keyer) c.args.page.now c.args.block.now).0 c.requires.image).1

pub of_block-requires-clause-few : goal.of_block-requires-clause-few
of_block-requires-clause-few g c = few_records written_version (g.K.Keyer.pseudokey_of c.args.self.now.keyer) c.args.page.now c.requires.image.valid

pub invariant_of-self-2 : goal.invariant_of-self-2
invariant_of-self-2 g c =
    let pseudo = g.K.Keyer.pseudokey_of c.self.inside.keyer in
    let images = c.self.inside.images.items in
    let image = c.of_block.result in
    let page = c.args.page.now in
    let is = subst (λ (l : ImageList g.row.K.Denot). IsImage written_version (g.K.Keyer.pseudokey_of l.keyer) page c.args.block.now) (sym c.self.view_is) c.requires.image in
    let room = subst (λ (l : ImageList g.row.K.Denot). length l.pages < 2 ^ 32 - 1) (sym c.self.view_is) c.requires.room in
    let laid : IsLaidOut written_version pseudo page image.block =
    subst (IsLaidOut written_version pseudo page) (sym c.of_block.ensures.block) ((c.images_are_sealed.ensures written_version pseudo page c.args.block.now).0 is).0 in
    let shows = shown pseudo c.blocks_are_read.ensures page image laid c.of_block.ensures.keyed in
    let items : c.push_reserved.new.self.items ≡ images ++ image ∷ [] = c.push_reserved.ensures ∙ ap (λ (l : List Image). l ++ image ∷ []) c.reserve.ensures.items in
    subst (AreKept pseudo) (sym items) (kept_added pseudo images image page room shows c.self.invariant)

pub returns-clause-ok : goal.returns-clause-ok
returns-clause-ok g c =
    let pseudo = g.K.Keyer.pseudokey_of c.self.inside.keyer in
    let images = c.self.inside.images.items in
    let image = c.of_block.result in
    let page = c.args.page.now in
    let is = subst (λ (l : ImageList g.row.K.Denot). IsImage written_version (g.K.Keyer.pseudokey_of l.keyer) page c.args.block.now) (sym c.self.view_is) c.requires.image in
    let laid : IsLaidOut written_version pseudo page image.block =
    subst (IsLaidOut written_version pseudo page) (sym c.of_block.ensures.block) ((c.images_are_sealed.ensures written_version pseudo page c.args.block.now).0 is).0 in
    let shows = shown pseudo c.blocks_are_read.ensures page image laid c.of_block.ensures.keyed in
    let items : c.push_reserved.new.self.items ≡ images ++ image ∷ [] = c.push_reserved.ensures ∙ ap (λ (l : List Image). l ++ image ∷ []) c.reserve.ensures.items in
    ap (pages_in pseudo) items ∙ pages_added pseudo images image page shows.read ∙ ap (λ (l : ImageList g.row.K.Denot). l.pages ++ page ∷ []) c.self.view_is
