use Rattle.std.proofs.Common.{◌≡◌, ◌-◌, ◌^◌, ◌<◌, List, [], ◌∷◌, ◌++◌, length, sym, ap, ◌∙◌, subst}
use Rattle.exh_page.specs.Page.{IsWellFormed}
use Rattle.exh_frames.specs.declared.image.Image.{Image}
use Rattle.exh_frames.specs.PageImages.{AreKept, ImageList, pages_in}
use Rattle.exh_frames.proofs.Kept.{kept_added, pages_added}
use Rattle.exh_frames.proofs.images.Images.add.Goals as goal

pub invariant_of-self-2 : goal.invariant_of-self-2
invariant_of-self-2 g c =
    let pseudo = g.K.Keyer.pseudokey_of c.self.inside.keyer in
    let images = c.self.inside.images.items in
    let image = c.of.result in
    let formed = subst (λ (l : ImageList g.row.K.Denot). IsWellFormed (g.K.Keyer.pseudokey_of l.keyer) c.args.page.now) (sym c.self.view_is) c.requires.formed in
    let room = subst (λ (l : ImageList g.row.K.Denot). length l.pages < 2 ^ 32 - 1) (sym c.self.view_is) c.requires.room in
    let items : c.push_reserved.new.self.items ≡ images ++ image ∷ [] = c.push_reserved.ensures ∙ ap (λ (l : List Image). l ++ image ∷ []) c.reserve.ensures.items in
    subst (AreKept pseudo) (sym items) (kept_added pseudo images image c.args.page.now room (c.of.ensures pseudo formed) c.self.invariant)

pub returns-clause-ok : goal.returns-clause-ok
returns-clause-ok g c =
    let pseudo = g.K.Keyer.pseudokey_of c.self.inside.keyer in
    let images = c.self.inside.images.items in
    let image = c.of.result in
    let page = c.args.page.now in
    let formed = subst (λ (l : ImageList g.row.K.Denot). IsWellFormed (g.K.Keyer.pseudokey_of l.keyer) page) (sym c.self.view_is) c.requires.formed in
    let items : c.push_reserved.new.self.items ≡ images ++ image ∷ [] = c.push_reserved.ensures ∙ ap (λ (l : List Image). l ++ image ∷ []) c.reserve.ensures.items in
    ap (pages_in pseudo) items ∙ pages_added pseudo images image page (c.of.ensures pseudo formed).read ∙ ap (λ (l : ImageList g.row.K.Denot). l.pages ++ page ∷ []) c.self.view_is
