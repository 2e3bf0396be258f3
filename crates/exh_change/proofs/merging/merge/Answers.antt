use Rattle.std.proofs.Common.{◌≡◌, Bool, true, false, List, [], ◌∷◌, ◌++◌, slice_get, Option, sym, ap, ◌∙◌, subst}
use Rattle.std.proofs.lemmas.Bool.{false_from_ne_true, false≢true}
use Rattle.std.proofs.lemmas.List.{same_from_push}
use Rattle.exh_legal.specs.Pages.{IsHome}
use Rattle.exh_change.specs.Changes.{Settles, SettlesLeft}
use Rattle.exh_change.specs.Leaves.{leaf_of}
use Rattle.exh_change.proofs.Homes.{match_more}
use Rattle.exh_change.proofs.LeafLemmas.{leaf_home, leaf_there, page_of_leaf}
use Rattle.exh_change.proofs.Settling.{left_settles, right_settles}
use Rattle.exh_change.proofs.merging.merge.Goals as goal

pub returns-in_ok-left-clause-legal : goal.returns-in_ok-left-clause-legal
returns-in_ok-left-clause-legal g c base file knows is tables old old_tables legal small legal_old same leaf =
    let place = c.args.place in
    let prefix = c.args.prefix in
    let parent = c.unwrap-parent.result in
    let left = c.in_ok-left.left in
    let draft = c.args.draft.now in
    let own = rw c.unwrap-parent.ensures at c.parent.ensures.some in
    let short = rw c.unwrap-parent.ensures at c.parent.ensures.room in
    let right = c.is_right_child.ensures.0 c.if-is_right_child.true in
    let bit = (same_from_push parent right.0 own.0 true (sym own.1 ∙ right.1)).1 in
    let prefix_is : prefix ≡ parent ++ true ∷ [] = own.1 ∙ ap (λ (bit : Bool). parent ++ bit ∷ []) bit in
    let home = c.in_ok-left.ensures.legal old old_tables base knows small legal_old (same.header ∙ sym is.header) in
    let page = page_of_leaf file.pages left.place (leaf_of left.page) (ap (λ (leaves : List (Option (List Bool))). slice_get leaves left.place) (sym same.leaves) ∙ leaf_there old.pages left.place left.page home.there) in
    let begins = leaf_home page.0 left.page c.low.result page.2 home.is in
    match_more c.merge_left.result (λ _. SettlesLeft base file parent left.place draft c.merge_left.new.draft) (λ _. Settles base file place draft c.merge_left.new.draft)
    (λ _ (settles : SettlesLeft base file parent left.place draft c.merge_left.new.draft). right_settles file place prefix leaf base draft c.merge_left.new.draft parent (c.pages_stand_apart.ensures file tables is.is.valid legal) left.place page.0 prefix_is short page.1 (subst (IsHome page.0) c.low.ensures begins) settles)
    (c.merge_left.ensures.legal base file (c.in_ok-left.ensures.same_bytes ∙ knows) is tables legal)

pub returns-else-is_right_child-clause-legal : goal.returns-else-is_right_child-clause-legal
returns-else-is_right_child-clause-legal g c base file knows is tables old old_tables legal small legal_old same leaf =
    let place = c.args.place in
    let prefix = c.args.prefix in
    let parent = c.unwrap-parent.result in
    let draft = c.args.draft.now in
    let new = c.merge_left-else-is_right_child.new.draft in
    let own = rw c.unwrap-parent.ensures at c.parent.ensures.some in
    let bit : own.0 ≡ false = false_from_ne_true own.0 (λ right. false≢true (sym c.if-is_right_child.false ∙ c.is_right_child.ensures.1 (parent, own.1 ∙ ap (λ (bit : Bool). parent ++ bit ∷ []) right))) in
    let prefix_is : prefix ≡ parent ++ false ∷ [] = own.1 ∙ ap (λ (bit : Bool). parent ++ bit ∷ []) bit in
    match_more c.merge_left-else-is_right_child.result (λ _. SettlesLeft base file parent place draft new) (λ _. Settles base file place draft new)
    (λ _ (settles : SettlesLeft base file parent place draft new). left_settles file place prefix leaf base draft new parent prefix_is settles)
    (c.merge_left-else-is_right_child.ensures.legal base file knows is tables legal)
