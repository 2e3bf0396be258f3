use Rattle.std.proofs.Common.{◌≡◌, ℕ, ◌+◌, ◌-◌, ◌/◌, ◌%◌, ◌^◌, ◌<◌, ◌≤◌, inl, inr, true, List, [], ◌∷◌, ◌++◌, length, slice_get, Some, refl, sym, ap, ◌∙◌, subst, arith}
use Rattle.std.specs.List.{sum}
use Rattle.std.proofs.lemmas.Option.{slice_get_within}
use Rattle.exh_page.specs.declared.page.Page.{Page}
use Rattle.exh_page.specs.declared.page.Page.TheVariants.{Live}
use Rattle.exh_page.specs.Page.{low_bound, records_of}
use Rattle.exh_prefix.specs.Prefix.{low_of}
use Rattle.exh_cells.specs.declared.cell.Cell.{Cell}
use Rattle.exh_cells.specs.declared.stamped_header.StampedHeader.{StampedHeader}
use Rattle.exh_cells.specs.PlacedFile.{PlacedFile}
use Rattle.exh_edits.specs.PlacedEdits.{with_cell}
use Rattle.exh_change.specs.PlacedSteps.{IsStep, merged, slot_of, with_change}
use Rattle.exh_change.specs.PlacedLaws.{map_in}
use Rattle.exh_change.specs.WalkBlocks.{pages_in}
use Rattle.exh_change.specs.declared.draft.Draft.{Draft}
use Rattle.exh_change.specs.Changes.{IsOfPrefix}
use Rattle.exh_change.specs.Drafts.{IsOf}
use Rattle.exh_change.specs.Leaves.{MayMerge}
use Rattle.exh_change.proofs.EditPlaces.{united_more}
use Rattle.exh_change.proofs.Settling.{may_both, merged_leaves, not_both}
use Rattle.exh_change.proofs.MergeSteps.{merged_is, mergeable, of_prefix, page_there}
use Rattle.exh_change.proofs.OfFile.{other_fault}
use Rattle.exh_change.proofs.merging.merge_left.Goals as goal
use Rattle.exh_change.proofs.merging.merge_left.Goals.{then-slot-eq0-via-then-slot-eq0, then-slot-eq0-via-else-slot-eq0+then-slot-page_count}

within : (base : List ℕ) (draft : Draft) (file : PlacedFile) (place : ℕ) → IsOf base draft file → place < pages_in draft.header → place < length file.pages
within base draft file place is less = omega (arith, less, ap (λ (header : StampedHeader). sum header.page_counts) is.header, is.is.valid.count)

pub returns-in_err-page-clause-legal : goal.returns-in_err-page-clause-legal
returns-in_err-page-clause-legal g c base file knows is tables legal =
    let there = page_there file.pages c.args.place (within base c.args.draft.now file c.args.place is c.requires.place) in
    other_fault c.from_residual.result c.in_err-page.field-0.0 _ c.from_residual.ensures.1 (c.in_err-page.ensures.legal base file knows is there.0 there.1)

pub returns-then-slot-eq0-clause-legal : goal.returns-then-slot-eq0-clause-legal
returns-then-slot-eq0-clause-legal g c base file knows is tables legal =
    let there = page_there file.pages c.args.place (within base c.args.draft.now file c.args.place is c.requires.place) in
    let page = there.1 ∙ ap (λ (page : Page). Some page) (sym (c.in_ok-page.ensures.legal base file knows is there.0 there.1)) in
    let own = c.is_child.ensures.0 c.if-not-is_child.false in
    let cell = c.in_ok-cell.ensures.legal base file (c.in_ok-page.ensures.same_bytes ∙ knows) is in
    let merges = mergeable c.merges_keep_legal.ensures base c.args.draft.now file tables c.args.place c.in_ok-page.page c.args.parent c.in_ok-cell.cell is legal own page cell c.requires.inner in
    let len : c.from.result ≡ length c.args.parent = c.from.ensures ∙ c.len.ensures.length in
    let odd = ap (λ (len : ℕ). (slot_of c.in_ok-cell.cell len).number % 2) len ∙ merges.odd in
    let right = ap (λ (len : ℕ). slice_get file.pages (slot_of c.in_ok-cell.cell len).page) len ∙ merges.there in
    elim c.then-slot-eq0.branch [
      | then-slot-eq0-via-then-slot-eq0 w ↦ (let one = odd in omega (arith, one, w.if-slot-eq0.true))
      | then-slot-eq0-via-else-slot-eq0+then-slot-page_count w ↦ omega (
        arith,
        slice_get_within file.pages (slot_of c.in_ok-cell.cell c.from.result).page merges.right right,
        w.if-slot-page_count.true,
        w.page_count.ensures.count,
        ap (λ (header : StampedHeader). sum header.page_counts) is.header,
        is.is.valid.count,
      )
    ]

pub returns-in_err-right-clause-legal : goal.returns-in_err-right-clause-legal
returns-in_err-right-clause-legal g c base file knows is tables legal =
    let there = page_there file.pages c.args.place (within base c.args.draft.now file c.args.place is c.requires.place) in
    let page = there.1 ∙ ap (λ (page : Page). Some page) (sym (c.in_ok-page.ensures.legal base file knows is there.0 there.1)) in
    let own = c.is_child.ensures.0 c.if-not-is_child.false in
    let known = c.in_ok-page.ensures.same_bytes ∙ knows in
    let cell = c.in_ok-cell.ensures.legal base file known is in
    let merges = mergeable c.merges_keep_legal.ensures base c.args.draft.now file tables c.args.place c.in_ok-page.page c.args.parent c.in_ok-cell.cell is legal own page cell c.requires.inner in
    let len : c.from.result ≡ length c.args.parent = c.from.ensures ∙ c.len.ensures.length in
    let right = ap (λ (len : ℕ). slice_get file.pages (slot_of c.in_ok-cell.cell len).page) len ∙ merges.there in
    other_fault c.from_residual-in_err-right.result c.in_err-right.field-0.0 _ c.from_residual-in_err-right.ensures.1
    (c.in_err-right.ensures.legal base file (c.in_ok-cell.ensures.same_bytes ∙ known) is merges.right right)

pub returns-then-not-may_unite-clause-legal : goal.returns-then-not-may_unite-clause-legal
returns-then-not-may_unite-clause-legal g c base file knows is tables legal =
    let place = c.args.place in
    let parent = c.args.parent in
    let own_cell = c.in_ok-cell.cell in
    let right_page = c.in_ok-right.right in
    let there = page_there file.pages place (within base c.args.draft.now file place is c.requires.place) in
    let page = there.1 ∙ ap (λ (page : Page). Some page) (sym (c.in_ok-page.ensures.legal base file knows is there.0 there.1)) in
    let own = c.is_child.ensures.0 c.if-not-is_child.false in
    let known = c.in_ok-page.ensures.same_bytes ∙ knows in
    let cell = c.in_ok-cell.ensures.legal base file known is in
    let merges = mergeable c.merges_keep_legal.ensures base c.args.draft.now file tables place c.in_ok-page.page parent own_cell is legal own page cell c.requires.inner in
    let len : c.from.result ≡ length parent = c.from.ensures ∙ c.len.ensures.length in
    let right = ap (λ (len : ℕ). slice_get file.pages (slot_of own_cell len).page) len ∙ merges.there in
    let read : right_page ≡ merges.right = c.in_ok-right.ensures.legal base file (c.in_ok-cell.ensures.same_bytes ∙ known) is merges.right right in
    let low = subst (λ (page : Page). low_bound page ≡ low_of (parent ++ true ∷ [])) (sym read) merges.low in
    let stands = subst (λ (page : Page). slice_get file.pages (slot_of own_cell (length parent)).page ≡ Some page) (sym read) merges.there in
    let apart = c.pages_stand_apart.ensures file tables is.is.valid legal in
    let may_not = subst (λ (len : ℕ). (slot_of own_cell len).number < 2 ^ 32 - 1 → IsOfPrefix (parent ++ true ∷ []) right_page → length (records_of c.in_ok-page.page) + length (records_of right_page) ≤ c.args.draft.now.header.settings.cap / 2 → ⊥) len (c.may_unite.ensures.may_not c.if-not-may_unite.true) in
    inr (not_both base c.args.draft.now file is place parent c.in_ok-page.page page own_cell right_page cell stands apart low may_not, refl)

pub returns-clause-two : goal.returns-clause-two
returns-clause-two g c =
    inr (c.args.place, (slot_of c.in_ok-cell.cell c.from.result).page, united_more c.args.place (slot_of c.in_ok-cell.cell c.from.result).page c.args.draft.now c.put_cell.new.draft c.unite.new.draft c.in_ok-put_cell.ensures.more c.in_ok-unite.ensures.more)

pub returns-clause-legal : goal.returns-clause-legal
returns-clause-legal g c base file knows is tables legal =
    let place = c.args.place in
    let parent = c.args.parent in
    let own_page = c.in_ok-page.page in
    let own_cell = c.in_ok-cell.cell in
    let right_page = c.in_ok-right.right in
    let there = page_there file.pages place (within base c.args.draft.now file place is c.requires.place) in
    let page = there.1 ∙ ap (λ (page : Page). Some page) (sym (c.in_ok-page.ensures.legal base file knows is there.0 there.1)) in
    let own = c.is_child.ensures.0 c.if-not-is_child.false in
    let known = c.in_ok-page.ensures.same_bytes ∙ knows in
    let cell = c.in_ok-cell.ensures.legal base file known is in
    let known_too = c.in_ok-cell.ensures.same_bytes ∙ known in
    let merges = mergeable c.merges_keep_legal.ensures base c.args.draft.now file tables place own_page parent own_cell is legal own page cell c.requires.inner in
    let len : c.from.result ≡ length parent = c.from.ensures ∙ c.len.ensures.length in
    let right_place = (slot_of own_cell c.from.result).page in
    let place_is : (slot_of own_cell (length parent)).page ≡ right_place = ap (λ (len : ℕ). (slot_of own_cell len).page) (sym len) in
    let right = ap (slice_get file.pages) (sym place_is) ∙ merges.there in
    let read : right_page ≡ merges.right = c.in_ok-right.ensures.legal base file known_too is merges.right right in
    let may = c.may_unite.ensures.may c.if-not-may_unite.false in
    let live = of_prefix (parent ++ true ∷ []) right_page may.1 in
    let stands : slice_get file.pages (slot_of own_cell (length parent)).page ≡ Some (Live (parent ++ true ∷ []) live.0 (records_of right_page)) = merges.there ∙ ap (λ (page : Page). Some page) (sym read ∙ live.1) in
    let few : length (records_of own_page) + length (records_of right_page) ≤ file.header.settings.cap = omega (arith, may.2, ap (λ (header : StampedHeader). header.settings.cap) is.header) in
    let step = merges.merges live.0 (records_of right_page) stands few in
    let len_too : c.from-2.result ≡ length parent = c.from-2.ensures ∙ c.len-2.ensures.length in
    let celled = c.in_ok-put_cell.ensures.legal base file (c.in_ok-right.ensures.same_bytes ∙ known_too) is in
    let changed = subst (λ (cell : Cell). IsOf base c.put_cell.new.draft (with_cell place cell file)) c.with_change-changed.ensures.is celled in
    let united = c.in_ok-unite.ensures.is base (with_cell place (with_change c.from-2.result right_place own_cell) file) changed in
    let small = subst (λ (len : ℕ). (slot_of own_cell len).number < 2 ^ 32 - 1) len may.0 in
    let both = may_both base c.args.draft.now file is place parent own_page page own_cell right_page cell (ap (slice_get file.pages) place_is ∙ right ∙ ap (λ (page : Page). Some page) (sym read)) own may.1 small may.2 c.requires.inner in
    inl (
      right_place,
      record {
        becomes = record {
          new = merged place right_place parent live.0 (records_of own_page) (records_of right_page) own_cell file;
          is = merged_is base c.unite.new.draft file place right_place own_cell.number c.from-2.result parent live.0 own_cell own_page right_page live.1 refl len_too united;
          step = subst (λ (at : ℕ). IsStep file (map_in file) (merged place at parent live.0 (records_of own_page) (records_of right_page) own_cell file)) place_is step;
        };
        may = subst (MayMerge file parent place) place_is both;
        leaves = merged_leaves file place right_place parent live.0 (records_of own_page) (records_of right_page) own_cell;
      },
    )
