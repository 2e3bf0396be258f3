use Rattle.std.proofs.Common.{◌≡◌, ℕ, true, [], ◌∷◌, ◌++◌, length, Some, refl, sym, ap, ◌∙◌, subst, arith}
use Rattle.std.specs.List.{sum}
use Rattle.std.proofs.lemmas.Bool.{false≢true}
use Rattle.exh_keyer.specs.declared.any_keyer.AnyKeyer.{AnyKeyer}
use Rattle.exh_keyer.specs.Pseudokey.{any_pseudokey}
use Rattle.exh_prefix.specs.Prefix.{low_of}
use Rattle.exh_page.specs.declared.page.Page.{Page}
use Rattle.exh_page.specs.declared.page.Page.TheVariants.{Forward}
use Rattle.exh_page.specs.Page.{IsWellFormed, low_bound}
use Rattle.exh_page.specs.Halves.{right_half}
use Rattle.exh_cells.specs.declared.cell.Cell.{Cell}
use Rattle.exh_cells.specs.declared.stamped_header.StampedHeader.{StampedHeader}
use Rattle.exh_edits.specs.PlacedEdits.{with_cell, with_page}
use Rattle.exh_change.specs.PlacedSteps.{with_change}
use Rattle.exh_change.specs.Drafts.{IsOf, pseudo_in}
use Rattle.exh_change.proofs.EditPlaces.{one_of, revived_more}
use Rattle.exh_change.proofs.Homes.{chosen, chosen_at, home_revived, home_then, revived_is}
use Rattle.exh_change.proofs.splitting.split_revived.Goals as goal

pub returns-then-not-is_forward-clause-legal : goal.returns-then-not-is_forward-clause-legal
returns-then-not-is_forward-clause-legal g c base file knows is link records target right_cell page_is there cell_is right_there right_cell_is small =
    let known = c.in_ok-number.ensures.same_bytes ∙ knows in
    let same : c.in_ok-old.old ≡ Forward (low_of (c.args.prefix ++ true ∷ [])) target = c.in_ok-old.ensures.legal base file known is (Forward (low_of (c.args.prefix ++ true ∷ [])) target) right_there in
    let low : c.low.result ≡ low_of (c.args.prefix ++ true ∷ []) = c.low.ensures ∙ ap low_bound (c.in_ok-halves.ensures.right ∙ ap right_half page_is) in
    let yes = c.is_forward.ensures.1 (target, same ∙ ap (λ (low : ℕ). Forward low target) (sym low)) in
    false≢true (sym c.if-not-is_forward.true ∙ yes)

pub returns-clause-home : goal.returns-clause-home
returns-clause-home g c =
    let old = c.args.draft.now in
    let new = c.put_page-2.new.draft in
    let halves = c.in_ok-halves.halves in
    let number = c.in_ok-number.field-0.number in
    let same : new.header ≡ old.header = c.in_ok-put_page-2.ensures.header ∙ c.in_ok-put_page.ensures.header ∙ c.in_ok-put_cell.ensures.header in
    let keyer : old.header.settings.keyer ≡ new.header.settings.keyer = ap (λ (header : StampedHeader). header.settings.keyer) (sym same) in
    let pages_new = ap (λ (header : StampedHeader). sum header.page_counts) same in
    let formed : (page : Page) → IsWellFormed (pseudo_in old) page → IsWellFormed (pseudo_in new) page = λ (page : Page) (formed : IsWellFormed (pseudo_in old) page). subst (λ (keyer : AnyKeyer). IsWellFormed (any_pseudokey keyer) page) keyer formed in
    home_then new c.args.pseudokey c.args.home.now.place c.args.place halves.left halves.right c.home_of.result
    (chosen c.args.prefix c.requires.prefix.0 c.requires.prefix.1 c.args.pseudokey c.args.home.now.place c.args.place number c.args.home.now.page halves.left halves.right c.home_of.result c.requires.short c.requires.prefix.2 c.requires.home.own c.in_ok-halves.ensures.left c.in_ok-halves.ensures.right c.home_of.ensures)
    (omega (arith, c.requires.home.there, pages_new)) (omega (arith, c.if-place-page_count.false, c.page_count.ensures.count, pages_new)) (formed halves.left c.in_ok-halves.ensures.left_formed) (formed halves.right c.in_ok-halves.ensures.right_formed)

pub returns-clause-legal : goal.returns-clause-legal
returns-clause-legal g c base file knows is link records target right_cell page_is there cell_is right_there right_cell_is small =
    let place = c.args.home.now.place in
    let prefix = c.args.prefix in
    let page = c.args.home.now.page in
    let cell = c.args.cell.now in
    let halves = c.in_ok-halves.halves in
    let number = c.in_ok-number.field-0.number in
    let read = c.in_ok-number.ensures.legal base file knows is in
    let both : Some c.in_ok-number.field-0 ≡ Some right_cell = sym read ∙ right_cell_is in
    let number_is : number ≡ right_cell.number = (let same : c.in_ok-number.field-0 ≡ right_cell = cc in ap (λ (cell : Cell). cell.number) same) in
    let len : c.from.result ≡ length prefix = c.from.ensures ∙ c.len.ensures.length in
    let known = c.in_ok-old.ensures.same_bytes ∙ c.in_ok-number.ensures.same_bytes ∙ knows in
    let celled = c.in_ok-put_cell.ensures.legal base file known is in
    let changed = subst (λ (cell : Cell). IsOf base c.put_cell.new.draft (with_cell place cell file)) c.with_change-cell.ensures.is celled in
    let paged = c.in_ok-put_page.ensures.is base (with_cell place (with_change c.from.result c.args.place cell) file) changed in
    let both_paged = c.in_ok-put_page-2.ensures.is base (with_page place halves.left (with_cell place (with_change c.from.result c.args.place cell) file)) paged in
    let picked = chosen prefix link records c.args.pseudokey place c.args.place number page halves.left halves.right c.home_of.result c.requires.short page_is c.requires.home.own c.in_ok-halves.ensures.left c.in_ok-halves.ensures.right c.home_of.ensures in
    record {
      is = revived_is base c.put_page-2.new.draft file place c.args.place number right_cell.number c.from.result prefix link records cell page halves.left halves.right page_is c.in_ok-halves.ensures.left c.in_ok-halves.ensures.right number_is len both_paged;
      own = home_revived file c.args.pseudokey place c.args.place right_cell.number prefix link records cell (low_of (prefix ++ true ∷ [])) target c.home_of.result (there ∙ ap (λ (page : Page). Some page) page_is) right_there
          (chosen_at prefix link records c.args.pseudokey place c.args.place c.args.place number right_cell.number page halves.left halves.right c.home_of.result page_is c.in_ok-halves.ensures.left c.in_ok-halves.ensures.right number_is refl picked);
    }

pub returns-clause-halved : goal.returns-clause-halved
returns-clause-halved g c = record {
  right = c.args.place;
  which = one_of _ _ c.args.home.now.place c.args.place c.in_ok-halves.halves.left c.in_ok-halves.halves.right c.home_of.result c.home_of.ensures;
  more = revived_more c.args.home.now.place c.args.place c.args.draft.now c.put_cell.new.draft c.put_page.new.draft c.put_page-2.new.draft c.in_ok-put_cell.ensures.more c.in_ok-put_page.ensures.more c.in_ok-put_page-2.ensures.more;
}
