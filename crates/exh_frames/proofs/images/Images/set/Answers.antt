use Rattle.std.proofs.Common.{set, sym, ap, ◌∙◌, subst}
use Rattle.exh_page.specs.Page.{IsWellFormed}
use Rattle.exh_frames.specs.PageImages.{ImageList}
use Rattle.exh_frames.proofs.Kept.{kept_set, pages_set}
use Rattle.exh_frames.proofs.images.Images.set.Goals as goal

pub invariant_of-self : goal.invariant_of-self
invariant_of-self g c =
    let pseudo = g.K.Keyer.pseudokey_of c.self.inside.keyer in
    let formed = subst (λ (l : ImageList g.row.K.Denot). IsWellFormed (g.K.Keyer.pseudokey_of l.keyer) c.args.page.now) (sym c.self.view_is) c.requires.formed in
    kept_set pseudo c.self.inside.images.items c.args.number c.of.result c.args.page.now (c.of.ensures pseudo formed) c.self.invariant

pub returns-clause-pages : goal.returns-clause-pages
returns-clause-pages g c =
    let pseudo = g.K.Keyer.pseudokey_of c.self.inside.keyer in
    let formed = subst (λ (l : ImageList g.row.K.Denot). IsWellFormed (g.K.Keyer.pseudokey_of l.keyer) c.args.page.now) (sym c.self.view_is) c.requires.formed in
    pages_set pseudo c.self.inside.images.items c.args.number c.of.result c.args.page.now (c.of.ensures pseudo formed).read
    ∙ ap (λ (l : ImageList g.row.K.Denot). set l.pages c.args.number c.args.page.now) c.self.view_is
