use Rattle.std.proofs.Common.{◌≡◌, ◌<◌, length, set, slice_get, Some, sym, ap, ◌∙◌, subst}
use Rattle.exh_page.specs.declared.page.Page.{Page}
use Rattle.exh_page.specs.declared.record.Record.{Record}
use Rattle.exh_page.specs.Page.{IsWellFormed}
use Rattle.exh_frames.specs.PageImages.{CanPut, ImageList, page_in, pages_in, put_into}
use Rattle.exh_frames.proofs.Kept.{kept_at, kept_turned, pages_turned, read_at}
use Rattle.exh_frames.proofs.images.Images.put.Goals as goal

pub put-requires : goal.put-requires
put-requires g c =
    let pseudo = g.K.Keyer.pseudokey_of c.self.inside.keyer in
    let images = c.self.inside.images.items in
    let image = c.index_mut-image.result.now in
    let number = c.args.number in
    let own = page_in pseudo image in
    let within = subst (λ (l : ImageList g.row.K.Denot). number < length l.pages) (sym c.self.view_is) c.requires.there in
    let kept = kept_at pseudo images number image within c.index_mut-image.ensures.value c.self.invariant in
    let own_there = subst (λ (l : ImageList g.row.K.Denot). slice_get l.pages number ≡ Some own) c.self.view_is kept.0 in
    let item : Record = record { pseudokey = c.args.pseudokey; key = c.args.key.now; value = c.args.value.now } in
    let can : CanPut pseudo c.args.stood item image = record {
      laid = kept.1;
      keyed = kept.2;
      live = c.requires.live own own_there;
      stands = c.requires.stood own own_there;
      formed = subst (λ (l : ImageList g.row.K.Denot). IsWellFormed (g.K.Keyer.pseudokey_of l.keyer) (put_into item own)) (sym c.self.view_is) (c.requires.formed own own_there);
    } in
    (pseudo, can)

pub invariant_of-self : goal.invariant_of-self
invariant_of-self g c =
    let pseudo = g.K.Keyer.pseudokey_of c.self.inside.keyer in
    let images = c.self.inside.images.items in
    let image = c.index_mut-image.result.now in
    let number = c.args.number in
    let own = page_in pseudo image in
    let within = subst (λ (l : ImageList g.row.K.Denot). number < length l.pages) (sym c.self.view_is) c.requires.there in
    let kept = kept_at pseudo images number image within c.index_mut-image.ensures.value c.self.invariant in
    let own_there = subst (λ (l : ImageList g.row.K.Denot). slice_get l.pages number ≡ Some own) c.self.view_is kept.0 in
    let item : Record = record { pseudokey = c.args.pseudokey; key = c.args.key.now; value = c.args.value.now } in
    let can : CanPut pseudo c.args.stood item image = record {
      laid = kept.1;
      keyed = kept.2;
      live = c.requires.live own own_there;
      stands = c.requires.stood own own_there;
      formed = subst (λ (l : ImageList g.row.K.Denot). IsWellFormed (g.K.Keyer.pseudokey_of l.keyer) (put_into item own)) (sym c.self.view_is) (c.requires.formed own own_there);
    } in
    kept_turned pseudo images number c.put.new.self (put_into item own) (c.put.ensures pseudo can) c.self.invariant

pub returns-clause-pages : goal.returns-clause-pages
returns-clause-pages g c page there =
    let pseudo = g.K.Keyer.pseudokey_of c.self.inside.keyer in
    let images = c.self.inside.images.items in
    let image = c.index_mut-image.result.now in
    let number = c.args.number in
    let own = page_in pseudo image in
    let within = subst (λ (l : ImageList g.row.K.Denot). number < length l.pages) (sym c.self.view_is) c.requires.there in
    let kept = kept_at pseudo images number image within c.index_mut-image.ensures.value c.self.invariant in
    let own_there = subst (λ (l : ImageList g.row.K.Denot). slice_get l.pages number ≡ Some own) c.self.view_is kept.0 in
    let item : Record = record { pseudokey = c.args.pseudokey; key = c.args.key.now; value = c.args.value.now } in
    let can : CanPut pseudo c.args.stood item image = record {
      laid = kept.1;
      keyed = kept.2;
      live = c.requires.live own own_there;
      stands = c.requires.stood own own_there;
      formed = subst (λ (l : ImageList g.row.K.Denot). IsWellFormed (g.K.Keyer.pseudokey_of l.keyer) (put_into item own)) (sym c.self.view_is) (c.requires.formed own own_there);
    } in
    let is = subst (λ (l : ImageList g.row.K.Denot). slice_get l.pages number ≡ Some page) (sym c.self.view_is) there in
    let read = read_at pseudo images number image page within c.index_mut-image.ensures.value c.self.invariant is in
    pages_turned pseudo images number c.put.new.self (put_into item own) (c.put.ensures pseudo can)
    ∙ ap (λ (p : Page). set (pages_in pseudo images) number (put_into item p)) read ∙ ap (λ (l : ImageList g.row.K.Denot). set l.pages number (put_into item page)) c.self.view_is
