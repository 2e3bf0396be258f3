use Rattle.std.proofs.Common.{◌≡◌, ◌<◌, length, set, slice_get, Some, sym, ap, ◌∙◌, subst}
use Rattle.exh_page.specs.declared.page.Page.{Page}
use Rattle.exh_page.specs.Halves.{left_half, right_half}
use Rattle.exh_page.specs.Page.{IsWellFormed}
use Rattle.exh_frames.specs.PageImages.{CanSplit, ImageList, page_in, pages_in}
use Rattle.exh_frames.proofs.Changed.{words_in}
use Rattle.exh_frames.proofs.Kept.{kept_at, kept_both, pages_both, read_at}
use Rattle.exh_frames.proofs.images.Images.split_into.Goals as goal

pub split-half-requires : goal.split-half-requires
split-half-requires g c =
    let pseudo = g.K.Keyer.pseudokey_of c.self.inside.keyer in
    let images = c.self.inside.images.items in
    let image = c.index_mut-image.result.now in
    let number = c.args.number in
    let own = page_in pseudo image in
    let within = subst (λ (l : ImageList g.row.K.Denot). number < length l.pages) (sym c.self.view_is) c.requires.there in
    let kept = kept_at pseudo images number image within c.index_mut-image.ensures.value c.self.invariant in
    let own_there = subst (λ (l : ImageList g.row.K.Denot). slice_get l.pages number ≡ Some own) c.self.view_is kept.0 in
    let right = c.args.right in
    let can : CanSplit pseudo right image = record {
      laid = kept.1;
      keyed = kept.2;
      words = words_in pseudo (g.met.K.Keyer.pseudokey_fits c.self.inside.keyer) own kept.1.valid.formed;
      divisible = c.requires.divisible own own_there;
      formed = subst (λ (l : ImageList g.row.K.Denot). IsWellFormed (g.K.Keyer.pseudokey_of l.keyer) (left_half right own)) (sym c.self.view_is) (c.requires.formed own own_there);
      right_formed = subst (λ (l : ImageList g.row.K.Denot). IsWellFormed (g.K.Keyer.pseudokey_of l.keyer) (right_half own)) (sym c.self.view_is) (c.requires.right_formed own own_there);
    } in
    (pseudo, can)

pub invariant_of-self : goal.invariant_of-self
invariant_of-self g c =
    let pseudo = g.K.Keyer.pseudokey_of c.self.inside.keyer in
    let images = c.self.inside.images.items in
    let image = c.index_mut-image.result.now in
    let number = c.args.number in
    let own = page_in pseudo image in
    let within = subst (λ (l : ImageList g.row.K.Denot). number < length l.pages) (sym c.self.view_is) c.requires.there in
    let kept = kept_at pseudo images number image within c.index_mut-image.ensures.value c.self.invariant in
    let own_there = subst (λ (l : ImageList g.row.K.Denot). slice_get l.pages number ≡ Some own) c.self.view_is kept.0 in
    let right = c.args.right in
    let can : CanSplit pseudo right image = record {
      laid = kept.1;
      keyed = kept.2;
      words = words_in pseudo (g.met.K.Keyer.pseudokey_fits c.self.inside.keyer) own kept.1.valid.formed;
      divisible = c.requires.divisible own own_there;
      formed = subst (λ (l : ImageList g.row.K.Denot). IsWellFormed (g.K.Keyer.pseudokey_of l.keyer) (left_half right own)) (sym c.self.view_is) (c.requires.formed own own_there);
      right_formed = subst (λ (l : ImageList g.row.K.Denot). IsWellFormed (g.K.Keyer.pseudokey_of l.keyer) (right_half own)) (sym c.self.view_is) (c.requires.right_formed own own_there);
    } in
    kept_both pseudo images number right c.split-half.new.self c.split-half.result (left_half right own) (right_half own) (c.split-half.ensures.left pseudo can) (c.split-half.ensures.right pseudo can) c.self.invariant

pub returns-clause-pages : goal.returns-clause-pages
returns-clause-pages g c page there =
    let pseudo = g.K.Keyer.pseudokey_of c.self.inside.keyer in
    let images = c.self.inside.images.items in
    let image = c.index_mut-image.result.now in
    let number = c.args.number in
    let own = page_in pseudo image in
    let within = subst (λ (l : ImageList g.row.K.Denot). number < length l.pages) (sym c.self.view_is) c.requires.there in
    let kept = kept_at pseudo images number image within c.index_mut-image.ensures.value c.self.invariant in
    let own_there = subst (λ (l : ImageList g.row.K.Denot). slice_get l.pages number ≡ Some own) c.self.view_is kept.0 in
    let right = c.args.right in
    let can : CanSplit pseudo right image = record {
      laid = kept.1;
      keyed = kept.2;
      words = words_in pseudo (g.met.K.Keyer.pseudokey_fits c.self.inside.keyer) own kept.1.valid.formed;
      divisible = c.requires.divisible own own_there;
      formed = subst (λ (l : ImageList g.row.K.Denot). IsWellFormed (g.K.Keyer.pseudokey_of l.keyer) (left_half right own)) (sym c.self.view_is) (c.requires.formed own own_there);
      right_formed = subst (λ (l : ImageList g.row.K.Denot). IsWellFormed (g.K.Keyer.pseudokey_of l.keyer) (right_half own)) (sym c.self.view_is) (c.requires.right_formed own own_there);
    } in
    let is = subst (λ (l : ImageList g.row.K.Denot). slice_get l.pages number ≡ Some page) (sym c.self.view_is) there in
    let read = read_at pseudo images number image page within c.index_mut-image.ensures.value c.self.invariant is in
    pages_both pseudo images number right c.split-half.new.self c.split-half.result (left_half right own) (right_half own) (c.split-half.ensures.left pseudo can) (c.split-half.ensures.right pseudo can)
    ∙ ap (λ (p : Page). set (set (pages_in pseudo images) number (left_half right p)) right (right_half p)) read
    ∙ ap (λ (l : ImageList g.row.K.Denot). set (set l.pages number (left_half right page)) right (right_half page)) c.self.view_is
