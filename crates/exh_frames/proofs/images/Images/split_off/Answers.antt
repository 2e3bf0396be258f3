use Rattle.std.proofs.Common.{◌≡◌, ◌-◌, ◌^◌, ◌<◌, ℕ, List, [], ◌∷◌, ◌++◌, length, set, get_or, slice_get, Some, sym, ap, ◌∙◌, subst, arith}
use Rattle.std.proofs.lemmas.List.{length-map, length-set}
use Rattle.exh_page.specs.declared.page.Page.{Page}
use Rattle.exh_page.specs.Halves.{left_half, right_half}
use Rattle.exh_page.specs.Page.{IsWellFormed}
use Rattle.exh_frames.specs.declared.image.Image.{Image}
use Rattle.exh_frames.specs.PageImages.{AreKept, CanSplit, ImageList, page_in, pages_in}
use Rattle.exh_frames.proofs.Changed.{words_in}
use Rattle.exh_frames.proofs.Kept.{kept_added, kept_at, kept_turned, pages_added, pages_turned, read_at}
use Rattle.exh_frames.proofs.images.Images.split_off.Goals as goal

pub split-half-requires : goal.split-half-requires
split-half-requires g c =
    let pseudo = g.K.Keyer.pseudokey_of c.self.inside.keyer in
    let images = c.self.inside.images.items in
    let same = c.reserve.ensures.items in
    let value = c.index_mut-image.ensures.value ∙ ap (λ (l : List Image). get_or l c.args.number c.index_mut-image.result.now) same in
    let image = c.index_mut-image.result.now in
    let number = c.args.number in
    let own = page_in pseudo image in
    let within = subst (λ (l : ImageList g.row.K.Denot). number < length l.pages) (sym c.self.view_is) c.requires.there in
    let kept = kept_at pseudo images number image within value c.self.invariant in
    let own_there = subst (λ (l : ImageList g.row.K.Denot). slice_get l.pages number ≡ Some own) c.self.view_is kept.0 in
    let right = c.len-right.result in
    let many : right ≡ length c.args.self.now.pages =
    omega (arith, c.len-right.ensures, ap length same, length-map images (page_in pseudo), ap (λ (l : ImageList g.row.K.Denot). length l.pages) c.self.view_is) in
    let can : CanSplit pseudo right image = record {
      laid = kept.1;
      keyed = kept.2;
      words = words_in pseudo (g.met.K.Keyer.pseudokey_fits c.self.inside.keyer) own kept.1.valid.formed;
      divisible = c.requires.divisible own own_there;
      formed = subst (λ (n : ℕ). IsWellFormed pseudo (left_half n own)) (sym many)
          (subst (λ (l : ImageList g.row.K.Denot). IsWellFormed (g.K.Keyer.pseudokey_of l.keyer) (left_half (length c.args.self.now.pages) own)) (sym c.self.view_is) (c.requires.formed own own_there));
      right_formed = subst (λ (l : ImageList g.row.K.Denot). IsWellFormed (g.K.Keyer.pseudokey_of l.keyer) (right_half own)) (sym c.self.view_is) (c.requires.right_formed own own_there);
    } in
    (pseudo, can)

pub invariant_of-self-2 : goal.invariant_of-self-2
invariant_of-self-2 g c =
    let pseudo = g.K.Keyer.pseudokey_of c.self.inside.keyer in
    let images = c.self.inside.images.items in
    let same = c.reserve.ensures.items in
    let value = c.index_mut-image.ensures.value ∙ ap (λ (l : List Image). get_or l c.args.number c.index_mut-image.result.now) same in
    let image = c.index_mut-image.result.now in
    let number = c.args.number in
    let own = page_in pseudo image in
    let within = subst (λ (l : ImageList g.row.K.Denot). number < length l.pages) (sym c.self.view_is) c.requires.there in
    let kept = kept_at pseudo images number image within value c.self.invariant in
    let own_there = subst (λ (l : ImageList g.row.K.Denot). slice_get l.pages number ≡ Some own) c.self.view_is kept.0 in
    let right = c.len-right.result in
    let many : right ≡ length c.args.self.now.pages =
    omega (arith, c.len-right.ensures, ap length same, length-map images (page_in pseudo), ap (λ (l : ImageList g.row.K.Denot). length l.pages) c.self.view_is) in
    let can : CanSplit pseudo right image = record {
      laid = kept.1;
      keyed = kept.2;
      words = words_in pseudo (g.met.K.Keyer.pseudokey_fits c.self.inside.keyer) own kept.1.valid.formed;
      divisible = c.requires.divisible own own_there;
      formed = subst (λ (n : ℕ). IsWellFormed pseudo (left_half n own)) (sym many)
          (subst (λ (l : ImageList g.row.K.Denot). IsWellFormed (g.K.Keyer.pseudokey_of l.keyer) (left_half (length c.args.self.now.pages) own)) (sym c.self.view_is) (c.requires.formed own own_there));
      right_formed = subst (λ (l : ImageList g.row.K.Denot). IsWellFormed (g.K.Keyer.pseudokey_of l.keyer) (right_half own)) (sym c.self.view_is) (c.requires.right_formed own own_there);
    } in
    let left = c.split-half.new.self in
    let half = c.split-half.result in
    let shows = c.split-half.ensures.left pseudo can in
    let half_shows = c.split-half.ensures.right pseudo can in
    let items : c.push_reserved.new.self.items ≡ set images number left ++ half ∷ [] = c.push_reserved.ensures ∙ ap (λ (l : List Image). set l number left ++ half ∷ []) same in
    let room : length (pages_in pseudo (set images number left)) < 2 ^ 32 - 1 =
    omega (arith, c.requires.room, length-map (set images number left) (page_in pseudo), length-set images number left, length-map images (page_in pseudo), ap (λ (l : ImageList g.row.K.Denot). length l.pages) c.self.view_is) in
    subst (AreKept pseudo) (sym items) (kept_added pseudo (set images number left) half (right_half own) room half_shows (kept_turned pseudo images number left (left_half right own) shows c.self.invariant))

pub returns-clause-ok : goal.returns-clause-ok
returns-clause-ok g c page there =
    let pseudo = g.K.Keyer.pseudokey_of c.self.inside.keyer in
    let images = c.self.inside.images.items in
    let same = c.reserve.ensures.items in
    let value = c.index_mut-image.ensures.value ∙ ap (λ (l : List Image). get_or l c.args.number c.index_mut-image.result.now) same in
    let image = c.index_mut-image.result.now in
    let number = c.args.number in
    let own = page_in pseudo image in
    let within = subst (λ (l : ImageList g.row.K.Denot). number < length l.pages) (sym c.self.view_is) c.requires.there in
    let kept = kept_at pseudo images number image within value c.self.invariant in
    let own_there = subst (λ (l : ImageList g.row.K.Denot). slice_get l.pages number ≡ Some own) c.self.view_is kept.0 in
    let right = c.len-right.result in
    let many : right ≡ length c.args.self.now.pages =
    omega (arith, c.len-right.ensures, ap length same, length-map images (page_in pseudo), ap (λ (l : ImageList g.row.K.Denot). length l.pages) c.self.view_is) in
    let can : CanSplit pseudo right image = record {
      laid = kept.1;
      keyed = kept.2;
      words = words_in pseudo (g.met.K.Keyer.pseudokey_fits c.self.inside.keyer) own kept.1.valid.formed;
      divisible = c.requires.divisible own own_there;
      formed = subst (λ (n : ℕ). IsWellFormed pseudo (left_half n own)) (sym many)
          (subst (λ (l : ImageList g.row.K.Denot). IsWellFormed (g.K.Keyer.pseudokey_of l.keyer) (left_half (length c.args.self.now.pages) own)) (sym c.self.view_is) (c.requires.formed own own_there));
      right_formed = subst (λ (l : ImageList g.row.K.Denot). IsWellFormed (g.K.Keyer.pseudokey_of l.keyer) (right_half own)) (sym c.self.view_is) (c.requires.right_formed own own_there);
    } in
    let left = c.split-half.new.self in
    let half = c.split-half.result in
    let shows = c.split-half.ensures.left pseudo can in
    let half_shows = c.split-half.ensures.right pseudo can in
    let items : c.push_reserved.new.self.items ≡ set images number left ++ half ∷ [] = c.push_reserved.ensures ∙ ap (λ (l : List Image). set l number left ++ half ∷ []) same in
    let is = subst (λ (l : ImageList g.row.K.Denot). slice_get l.pages number ≡ Some page) (sym c.self.view_is) there in
    let read = read_at pseudo images number image page within value c.self.invariant is in
    ap (pages_in pseudo) items ∙ pages_added pseudo (set images number left) half (right_half own) half_shows.read
    ∙ ap (λ (l : List Page). l ++ right_half own ∷ []) (pages_turned pseudo images number left (left_half right own) shows)
    ∙ ap (λ (p : Page). set (pages_in pseudo images) number (left_half right p) ++ right_half p ∷ []) read
    ∙ ap (λ (n : ℕ). set (pages_in pseudo images) number (left_half n page) ++ right_half page ∷ []) many
    ∙ ap (λ (l : ImageList g.row.K.Denot). set l.pages number (left_half (length c.args.self.now.pages) page) ++ right_half page ∷ []) c.self.view_is
