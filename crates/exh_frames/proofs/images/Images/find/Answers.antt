use Rattle.std.proofs.Common.{◌≡◌, ◌<◌, length, slice_get, Some, sym, subst}
use Rattle.exh_page.specs.declared.page.Page.{Page}
use Rattle.exh_page.specs.Lookup.{HasPseudokey, IsLookup}
use Rattle.exh_frames.specs.PageImages.{ImageList}
use Rattle.exh_frames.proofs.Kept.{kept_at, read_at}
use Rattle.exh_frames.proofs.images.Images.find.Goals as goal

pub returns : goal.returns
returns g c pseudokey page there hashed =
    let pseudo = g.K.Keyer.pseudokey_of c.self.inside.keyer in
    let images = c.self.inside.images.items in
    let image = c.index-image.result.now in
    let within = subst (λ (l : ImageList g.row.K.Denot). c.args.number < length l.pages) (sym c.self.view_is) c.requires in
    let is = subst (λ (l : ImageList g.row.K.Denot). slice_get l.pages c.args.number ≡ Some page) (sym c.self.view_is) there in
    let kept = kept_at pseudo images c.args.number image within c.index-image.ensures c.self.invariant in
    let read = read_at pseudo images c.args.number image page within c.index-image.ensures c.self.invariant is in
    subst (λ (p : Page). IsLookup (pseudokey, c.args.key.now) p c.look_up.result) read
    (c.look_up.ensures pseudo pseudokey kept.1 (subst (HasPseudokey pseudokey c.args.key.now) (sym read) hashed))
