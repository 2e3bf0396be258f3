use Rattle.std.proofs.Common.{◌≡◌, ◌<◌, ℕ, length, set, slice_get, Some, sym, ap, ◌∙◌, subst}
use Rattle.std.proofs.lemmas.Option.{same_Some}
use Rattle.exh_page.specs.declared.page.Page.{Page}
use Rattle.exh_page.specs.declared.page.Page.TheVariants.{Forward}
use Rattle.exh_page.specs.declared.page_head.PageHead.TheVariants.{Live as LiveHead}
use Rattle.exh_page.specs.Halves.{link_of, sent_to, union}
use Rattle.exh_page.specs.Page.{IsWellFormed, low_bound}
use Rattle.exh_page.specs.PageHead.{head_of}
use Rattle.exh_frames.specs.PageImages.{CanUnite, ImageList, page_in, pages_in}
use Rattle.exh_frames.proofs.Changed.{live_as, live_head}
use Rattle.exh_frames.proofs.Kept.{kept_at, kept_both, pages_both}
use Rattle.exh_frames.proofs.images.Images.merge.Goals as goal

pub unreachable-requires : goal.unreachable-requires
unreachable-requires g c =
    let pseudo = g.K.Keyer.pseudokey_of c.self.inside.keyer in
    let page = c.head.ensures.0 in
    live_head pseudo page c.in_default.field-0 c.in_default.field-1 (c.requires.buddy_live page c.head.ensures.1) (sym c.in_default.is ∙ c.head.ensures.2)

pub unite-requires : goal.unite-requires
unite-requires g c =
    let pseudo = g.K.Keyer.pseudokey_of c.self.inside.keyer in
    let images = c.self.inside.images.items in
    let image = c.index_mut-image.result.now in
    let other = c.index-twin.result.now in
    let number = c.args.number in
    let buddy = c.args.buddy in
    let page = page_in pseudo image in
    let twin = page_in pseudo other in
    let within = subst (λ (l : ImageList g.row.K.Denot). number < length l.pages) (sym c.self.view_is) c.requires.there in
    let buddy_within = subst (λ (l : ImageList g.row.K.Denot). buddy < length l.pages) (sym c.self.view_is) c.requires.buddy_there in
    let kept = kept_at pseudo images number image within c.index_mut-image.ensures.value c.self.invariant in
    let buddy_kept = kept_at pseudo images buddy other buddy_within c.index-twin.ensures c.self.invariant in
    let there = subst (λ (l : ImageList g.row.K.Denot). slice_get l.pages number ≡ Some page) c.self.view_is kept.0 in
    let buddy_there = subst (λ (l : ImageList g.row.K.Denot). slice_get l.pages buddy ≡ Some twin) c.self.view_is buddy_kept.0 in
    let can : CanUnite pseudo c.args.parent image other.block other.pseudokeys = record {
      laid = kept.1;
      keyed = kept.2;
      other_laid = buddy_kept.1;
      other_keyed = buddy_kept.2;
      live = c.requires.live page there;
      other_live = c.requires.buddy_live twin buddy_there;
      formed = subst (λ (l : ImageList g.row.K.Denot). IsWellFormed (g.K.Keyer.pseudokey_of l.keyer) (union c.args.parent page twin)) (sym c.self.view_is) (c.requires.formed page there twin buddy_there);
    } in
    (pseudo, can)

pub invariant_of-self : goal.invariant_of-self
invariant_of-self g c =
    let pseudo = g.K.Keyer.pseudokey_of c.self.inside.keyer in
    let images = c.self.inside.images.items in
    let image = c.index_mut-image.result.now in
    let other = c.index-twin.result.now in
    let number = c.args.number in
    let buddy = c.args.buddy in
    let page = page_in pseudo image in
    let twin = page_in pseudo other in
    let within = subst (λ (l : ImageList g.row.K.Denot). number < length l.pages) (sym c.self.view_is) c.requires.there in
    let buddy_within = subst (λ (l : ImageList g.row.K.Denot). buddy < length l.pages) (sym c.self.view_is) c.requires.buddy_there in
    let kept = kept_at pseudo images number image within c.index_mut-image.ensures.value c.self.invariant in
    let buddy_kept = kept_at pseudo images buddy other buddy_within c.index-twin.ensures c.self.invariant in
    let there = subst (λ (l : ImageList g.row.K.Denot). slice_get l.pages number ≡ Some page) c.self.view_is kept.0 in
    let buddy_there = subst (λ (l : ImageList g.row.K.Denot). slice_get l.pages buddy ≡ Some twin) c.self.view_is buddy_kept.0 in
    let can : CanUnite pseudo c.args.parent image other.block other.pseudokeys = record {
      laid = kept.1;
      keyed = kept.2;
      other_laid = buddy_kept.1;
      other_keyed = buddy_kept.2;
      live = c.requires.live page there;
      other_live = c.requires.buddy_live twin buddy_there;
      formed = subst (λ (l : ImageList g.row.K.Denot). IsWellFormed (g.K.Keyer.pseudokey_of l.keyer) (union c.args.parent page twin)) (sym c.self.view_is) (c.requires.formed page there twin buddy_there);
    } in
    let same : c.head.ensures.0 ≡ twin = same_Some c.head.ensures.0 twin (sym c.head.ensures.1 ∙ buddy_there) in
    let head : LiveHead c.in-Live.prefix c.in-Live.right c.in-Live.count ≡ head_of twin = sym c.in-Live.is ∙ c.head.ensures.2 ∙ ap head_of same in
    let twin_is = live_as pseudo twin c.in-Live.prefix c.in-Live.right c.in-Live.count head in
    let united = c.unite.ensures pseudo can (sym (ap link_of twin_is)) in
    let sent_is : Forward c.low.result number ≡ sent_to number twin = ap (λ (n : ℕ). Forward n number) (c.low.ensures ∙ sym (ap low_bound twin_is)) in
    let formed = subst (λ (l : ImageList g.row.K.Denot). IsWellFormed (g.K.Keyer.pseudokey_of l.keyer) (sent_to number twin)) (sym c.self.view_is) (c.requires.sent_formed twin buddy_there) in
    let sent = c.of.ensures pseudo (subst (IsWellFormed pseudo) (sym sent_is) formed) in
    kept_both pseudo images number buddy c.unite.new.self c.of.result (union c.args.parent page twin) (Forward c.low.result number) united sent c.self.invariant

pub returns-clause-pages : goal.returns-clause-pages
returns-clause-pages g c own own_there others others_there =
    let pseudo = g.K.Keyer.pseudokey_of c.self.inside.keyer in
    let images = c.self.inside.images.items in
    let image = c.index_mut-image.result.now in
    let other = c.index-twin.result.now in
    let number = c.args.number in
    let buddy = c.args.buddy in
    let page = page_in pseudo image in
    let twin = page_in pseudo other in
    let within = subst (λ (l : ImageList g.row.K.Denot). number < length l.pages) (sym c.self.view_is) c.requires.there in
    let buddy_within = subst (λ (l : ImageList g.row.K.Denot). buddy < length l.pages) (sym c.self.view_is) c.requires.buddy_there in
    let kept = kept_at pseudo images number image within c.index_mut-image.ensures.value c.self.invariant in
    let buddy_kept = kept_at pseudo images buddy other buddy_within c.index-twin.ensures c.self.invariant in
    let there = subst (λ (l : ImageList g.row.K.Denot). slice_get l.pages number ≡ Some page) c.self.view_is kept.0 in
    let buddy_there = subst (λ (l : ImageList g.row.K.Denot). slice_get l.pages buddy ≡ Some twin) c.self.view_is buddy_kept.0 in
    let can : CanUnite pseudo c.args.parent image other.block other.pseudokeys = record {
      laid = kept.1;
      keyed = kept.2;
      other_laid = buddy_kept.1;
      other_keyed = buddy_kept.2;
      live = c.requires.live page there;
      other_live = c.requires.buddy_live twin buddy_there;
      formed = subst (λ (l : ImageList g.row.K.Denot). IsWellFormed (g.K.Keyer.pseudokey_of l.keyer) (union c.args.parent page twin)) (sym c.self.view_is) (c.requires.formed page there twin buddy_there);
    } in
    let same : c.head.ensures.0 ≡ twin = same_Some c.head.ensures.0 twin (sym c.head.ensures.1 ∙ buddy_there) in
    let head : LiveHead c.in-Live.prefix c.in-Live.right c.in-Live.count ≡ head_of twin = sym c.in-Live.is ∙ c.head.ensures.2 ∙ ap head_of same in
    let twin_is = live_as pseudo twin c.in-Live.prefix c.in-Live.right c.in-Live.count head in
    let united = c.unite.ensures pseudo can (sym (ap link_of twin_is)) in
    let sent_is : Forward c.low.result number ≡ sent_to number twin = ap (λ (n : ℕ). Forward n number) (c.low.ensures ∙ sym (ap low_bound twin_is)) in
    let formed = subst (λ (l : ImageList g.row.K.Denot). IsWellFormed (g.K.Keyer.pseudokey_of l.keyer) (sent_to number twin)) (sym c.self.view_is) (c.requires.sent_formed twin buddy_there) in
    let sent = c.of.ensures pseudo (subst (IsWellFormed pseudo) (sym sent_is) formed) in
    let own_is : page ≡ own = same_Some page own (sym there ∙ own_there) in
    let others_is : twin ≡ others = same_Some twin others (sym buddy_there ∙ others_there) in
    pages_both pseudo images number buddy c.unite.new.self c.of.result (union c.args.parent page twin) (Forward c.low.result number) united sent
    ∙ ap (λ (p : Page). set (set (pages_in pseudo images) number (union c.args.parent page twin)) buddy p) sent_is
    ∙ ap (λ (l : ImageList g.row.K.Denot). set (set l.pages number (union c.args.parent page twin)) buddy (sent_to number twin)) c.self.view_is
    ∙ ap (λ (p : Page). set (set c.args.self.now.pages number (union c.args.parent p twin)) buddy (sent_to number twin)) own_is
    ∙ ap (λ (p : Page). set (set c.args.self.now.pages number (union c.args.parent own p)) buddy (sent_to number p)) others_is
