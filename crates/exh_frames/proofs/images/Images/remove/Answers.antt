use Rattle.std.proofs.Common.{◌≡◌, ◌<◌, length, set, slice_get, Some, sym, ap, ◌∙◌, subst}
use Rattle.exh_page.specs.declared.page.Page.{Page}
use Rattle.exh_page.specs.Page.{IsWellFormed}
use Rattle.exh_frames.specs.PageImages.{CanLose, ImageList, page_in, pages_in, taken_out}
use Rattle.exh_frames.proofs.Kept.{kept_at, kept_turned, pages_turned, read_at}
use Rattle.exh_frames.proofs.images.Images.remove.Goals as goal

pub remove-requires : goal.remove-requires
remove-requires g c =
    let pseudo = g.K.Keyer.pseudokey_of c.self.inside.keyer in
    let images = c.self.inside.images.items in
    let image = c.index_mut-image.result.now in
    let number = c.args.number in
    let within = subst (λ (l : ImageList g.row.K.Denot). number < length l.pages) (sym c.self.view_is) c.requires.there in
    let kept = kept_at pseudo images number image within c.index_mut-image.ensures.value c.self.invariant in
    let there = subst (λ (l : ImageList g.row.K.Denot). slice_get l.pages number ≡ Some (page_in pseudo image)) c.self.view_is kept.0 in (
      pseudo,
      record {
        laid = kept.1;
        keyed = kept.2;
        live = c.requires.live (page_in pseudo image) there;
        within = c.requires.within (page_in pseudo image) there;
        formed = subst (λ (l : ImageList g.row.K.Denot). IsWellFormed (g.K.Keyer.pseudokey_of l.keyer) (taken_out c.args.spot.index (page_in pseudo image))) (sym c.self.view_is) (c.requires.formed (page_in pseudo image) there);
      },
    )

pub invariant_of-self : goal.invariant_of-self
invariant_of-self g c =
    let pseudo = g.K.Keyer.pseudokey_of c.self.inside.keyer in
    let images = c.self.inside.images.items in
    let image = c.index_mut-image.result.now in
    let number = c.args.number in
    let within = subst (λ (l : ImageList g.row.K.Denot). number < length l.pages) (sym c.self.view_is) c.requires.there in
    let kept = kept_at pseudo images number image within c.index_mut-image.ensures.value c.self.invariant in
    let there = subst (λ (l : ImageList g.row.K.Denot). slice_get l.pages number ≡ Some (page_in pseudo image)) c.self.view_is kept.0 in
    let can : CanLose pseudo c.args.spot.index image = record {
      laid = kept.1;
      keyed = kept.2;
      live = c.requires.live (page_in pseudo image) there;
      within = c.requires.within (page_in pseudo image) there;
      formed = subst (λ (l : ImageList g.row.K.Denot). IsWellFormed (g.K.Keyer.pseudokey_of l.keyer) (taken_out c.args.spot.index (page_in pseudo image))) (sym c.self.view_is) (c.requires.formed (page_in pseudo image) there);
    } in
    kept_turned pseudo images number c.remove.new.self (taken_out c.args.spot.index (page_in pseudo image)) (c.remove.ensures pseudo can) c.self.invariant

pub returns-clause-pages : goal.returns-clause-pages
returns-clause-pages g c page there =
    let pseudo = g.K.Keyer.pseudokey_of c.self.inside.keyer in
    let images = c.self.inside.images.items in
    let image = c.index_mut-image.result.now in
    let number = c.args.number in
    let within = subst (λ (l : ImageList g.row.K.Denot). number < length l.pages) (sym c.self.view_is) c.requires.there in
    let kept = kept_at pseudo images number image within c.index_mut-image.ensures.value c.self.invariant in
    let own = subst (λ (l : ImageList g.row.K.Denot). slice_get l.pages number ≡ Some (page_in pseudo image)) c.self.view_is kept.0 in
    let can : CanLose pseudo c.args.spot.index image = record {
      laid = kept.1;
      keyed = kept.2;
      live = c.requires.live (page_in pseudo image) own;
      within = c.requires.within (page_in pseudo image) own;
      formed = subst (λ (l : ImageList g.row.K.Denot). IsWellFormed (g.K.Keyer.pseudokey_of l.keyer) (taken_out c.args.spot.index (page_in pseudo image))) (sym c.self.view_is) (c.requires.formed (page_in pseudo image) own);
    } in
    let is = subst (λ (l : ImageList g.row.K.Denot). slice_get l.pages number ≡ Some page) (sym c.self.view_is) there in
    let read = read_at pseudo images number image page within c.index_mut-image.ensures.value c.self.invariant is in
    pages_turned pseudo images number c.remove.new.self (taken_out c.args.spot.index (page_in pseudo image)) (c.remove.ensures pseudo can)
    ∙ ap (λ (p : Page). set (pages_in pseudo images) number (taken_out c.args.spot.index p)) read ∙ ap (λ (l : ImageList g.row.K.Denot). set l.pages number (taken_out c.args.spot.index page)) c.self.view_is
