use Rattle.std.proofs.Common.{◌≡◌, ◌≢◌, ℕ, ◌%◌, length, slice_get, sym, ap, ◌∙◌, subst}
use Rattle.exh_page.specs.Page.{IsDivisible}
use Rattle.exh_edits.specs.declared.home.Home.{Home}
use Rattle.exh_change.specs.PlacedSteps.{IsStep, slot_of, split_fresh, split_revived}
use Rattle.exh_change.specs.PlacedLaws.{map_in}
use Rattle.exh_change.specs.Changes.{HasRoom, IsAtHome}
use Rattle.exh_change.proofs.Homes.{match_more}
use Rattle.exh_change.proofs.SplitSteps.{number_small, splittable}
use Rattle.exh_change.proofs.splitting.split.Goals as goal

pub returns-then-slot-ne0-clause-legal : goal.returns-then-slot-ne0-clause-legal
returns-then-slot-ne0-clause-legal g c base file knows is tables legal home full =
    let prefix = c.prefix_of-prefix.result in
    let link = c.prefix_of-prefix.ensures.0 in
    let records = c.prefix_of-prefix.ensures.1 in
    let page_is = c.prefix_of-prefix.ensures.2 in
    let short = subst IsDivisible page_is c.requires.short in
    let cell = c.in_ok-cell.ensures.legal base file knows is in
    let splits = splittable c.splits_keep_legal.ensures base c.args.draft.now file tables c.args.home.now.place c.args.home.now.page prefix link records c.in_ok-cell.cell is legal page_is home.there cell full short in
    let len : c.from.result ≡ length prefix = c.from.ensures ∙ c.len.ensures.length in
    let even = ap (λ (len : ℕ). (slot_of c.in_ok-cell.cell len).number % 2) len ∙ splits.even in
    c.if-slot-ne0.true even

pub returns-then-slot-eq0-clause-legal : goal.returns-then-slot-eq0-clause-legal
returns-then-slot-eq0-clause-legal g c base file knows is tables legal home full =
    let prefix = c.prefix_of-prefix.result in
    let link = c.prefix_of-prefix.ensures.0 in
    let records = c.prefix_of-prefix.ensures.1 in
    let page_is = c.prefix_of-prefix.ensures.2 in
    let short = subst IsDivisible page_is c.requires.short in
    let cell = c.in_ok-cell.ensures.legal base file knows is in
    let splits = splittable c.splits_keep_legal.ensures base c.args.draft.now file tables c.args.home.now.place c.args.home.now.page prefix link records c.in_ok-cell.cell is legal page_is home.there cell full short in
    let len : c.from.result ≡ length prefix = c.from.ensures ∙ c.len.ensures.length in
    let none : (slot_of c.in_ok-cell.cell (length prefix)).number ≡ 0 = ap (λ (len : ℕ). (slot_of c.in_ok-cell.cell len).number) (sym len) ∙ c.if-slot-eq0.true in
    let fresh = splits.fresh none in
    match_more c.split_fresh.result _ (HasRoom base file c.split_fresh.new.draft c.args.pseudokey)
    (λ (next : Home) (at : IsAtHome base c.split_fresh.new.draft c.args.pseudokey next (split_fresh c.args.home.now.place prefix link records c.in_ok-cell.cell file)). record { new = split_fresh c.args.home.now.place prefix link records c.in_ok-cell.cell file; at = at; step = fresh.step })
    (c.split_fresh.ensures.legal base file (c.in_ok-cell.ensures.same_bytes ∙ knows) is link records page_is home.there cell fresh.room)

pub returns-else-slot-eq0-clause-legal : goal.returns-else-slot-eq0-clause-legal
returns-else-slot-eq0-clause-legal g c base file knows is tables legal home full =
    let prefix = c.prefix_of-prefix.result in
    let link = c.prefix_of-prefix.ensures.0 in
    let records = c.prefix_of-prefix.ensures.1 in
    let page_is = c.prefix_of-prefix.ensures.2 in
    let place = c.args.home.now.place in
    let own = c.in_ok-cell.cell in
    let short = subst IsDivisible page_is c.requires.short in
    let cell = c.in_ok-cell.ensures.legal base file knows is in
    let splits = splittable c.splits_keep_legal.ensures base c.args.draft.now file tables place c.args.home.now.page prefix link records own is legal page_is home.there cell full short in
    let len : c.from.result ≡ length prefix = c.from.ensures ∙ c.len.ensures.length in
    let some : (slot_of own (length prefix)).number ≢ 0 = λ none. c.if-slot-eq0.false (ap (λ (len : ℕ). (slot_of own len).number) len ∙ none) in
    let revived = splits.revived some in
    let at_place = (slot_of own c.from.result).page in
    let place_is : (slot_of own (length prefix)).page ≡ at_place = ap (λ (len : ℕ). (slot_of own len).page) (sym len) in
    let forward = ap (slice_get file.pages) (sym place_is) ∙ revived.forward in
    let right_is = ap (slice_get file.cells) (sym place_is) ∙ revived.right_is in
    let step = subst (λ (at : ℕ). IsStep file (map_in file) (split_revived place prefix link records own at revived.right_cell.number file)) place_is revived.step in
    match_more c.split_revived.result _ (HasRoom base file c.split_revived.new.draft c.args.pseudokey)
    (λ (next : Home) (at : IsAtHome base c.split_revived.new.draft c.args.pseudokey next (split_revived place prefix link records own at_place revived.right_cell.number file)). record { new = split_revived place prefix link records own at_place revived.right_cell.number file; at = at; step = step })
    (c.split_revived.ensures.legal base file (c.in_ok-cell.ensures.same_bytes ∙ knows) is link records revived.target revived.right_cell page_is home.there cell forward right_is
    (number_small base c.args.draft.now file tables at_place _ revived.right_cell is legal forward right_is))
