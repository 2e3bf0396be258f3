use Rattle.std.proofs.Common.{◌<◌, length, sym, ap, ◌∙◌, subst}
use Rattle.exh_page.specs.Page.{records_of}
use Rattle.exh_prefix.specs.PrefixListLemmas.{set_same}
use Rattle.exh_frames.specs.InPlace.{AreKeyed}
use Rattle.exh_frames.specs.PageImages.{ImageList, page_in, pages_in}
use Rattle.exh_frames.proofs.Changed.{shown}
use Rattle.exh_frames.proofs.Kept.{kept_at, kept_turned, laid_alike, pages_turned}
use Rattle.exh_frames.proofs.images.Images.seal.Goals as goal

pub invariant_of-self : goal.invariant_of-self
invariant_of-self g c =
    let pseudo = g.K.Keyer.pseudokey_of c.self.inside.keyer in
    let images = c.self.inside.images.items in
    let image = c.index_mut-image.result.now in
    let number = c.args.number in
    let own = page_in pseudo image in
    let within = subst (λ (l : ImageList g.row.K.Denot). number < length l.pages) (sym c.self.view_is) c.requires in
    let kept = kept_at pseudo images number image within c.index_mut-image.ensures.value c.self.invariant in
    let laid = laid_alike pseudo own image.block c.seal.new.self.block c.seal.ensures.content kept.1 in
    let shows = shown pseudo c.blocks_are_read.ensures own c.seal.new.self laid (subst (AreKeyed (records_of own)) (sym c.seal.ensures.pseudokeys) kept.2) in
    kept_turned pseudo images number c.seal.new.self own shows c.self.invariant

pub returns-clause-pages : goal.returns-clause-pages
returns-clause-pages g c =
    let pseudo = g.K.Keyer.pseudokey_of c.self.inside.keyer in
    let images = c.self.inside.images.items in
    let image = c.index_mut-image.result.now in
    let number = c.args.number in
    let own = page_in pseudo image in
    let within = subst (λ (l : ImageList g.row.K.Denot). number < length l.pages) (sym c.self.view_is) c.requires in
    let kept = kept_at pseudo images number image within c.index_mut-image.ensures.value c.self.invariant in
    let laid = laid_alike pseudo own image.block c.seal.new.self.block c.seal.ensures.content kept.1 in
    let shows = shown pseudo c.blocks_are_read.ensures own c.seal.new.self laid (subst (AreKeyed (records_of own)) (sym c.seal.ensures.pseudokeys) kept.2) in
    pages_turned pseudo images number c.seal.new.self own shows ∙ set_same (pages_in pseudo images) number own kept.0 ∙ ap (λ (l : ImageList g.row.K.Denot). l.pages) c.self.view_is
