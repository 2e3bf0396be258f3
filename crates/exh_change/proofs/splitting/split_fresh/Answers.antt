use Rattle.std.proofs.Common.{◌≡◌, ℕ, ◌-◌, ◌^◌, ◌<◌, Bool, List, ◌∷◌, length, slice_index, sym, ap, ◌∙◌, subst, arith}
use Rattle.std.specs.List.{sum}
use Rattle.exh_keyer.specs.declared.any_keyer.AnyKeyer.{AnyKeyer}
use Rattle.exh_keyer.specs.Pseudokey.{any_pseudokey}
use Rattle.exh_prefix.specs.Leading.{ward_of}
use Rattle.exh_prefix.specs.LeadingLemmas.{leading-lt}
use Rattle.exh_prefix.specs.Prefix.{low_of}
use Rattle.exh_page.specs.declared.page.Page.{Page}
use Rattle.exh_page.specs.Page.{IsWellFormed}
use Rattle.exh_cells.specs.declared.cell.Cell.{Cell}
use Rattle.exh_cells.specs.declared.stamped_header.StampedHeader.{StampedHeader}
use Rattle.exh_cells.specs.PlacedFile.{PlacedFile}
use Rattle.exh_cells.specs.StampedHeader.{IsStampedHeader}
use Rattle.exh_edits.specs.PlacedEdits.{counted_more, with_cell, with_more}
use Rattle.exh_change.specs.PlacedSteps.{count_in, new_cell, ward_in, with_change}
use Rattle.exh_change.specs.declared.draft.Draft.{Draft}
use Rattle.exh_change.specs.Changes.{EditsMore, blocks_at}
use Rattle.exh_change.specs.Drafts.{IsOf, pseudo_in}
use Rattle.exh_change.proofs.Counts.{counted_valid, few_bits}
use Rattle.exh_change.proofs.EditPlaces.{fresh_more, one_of}
use Rattle.exh_change.proofs.Homes.{chosen, chosen_at, fresh_is, home_fresh, home_then}
use Rattle.exh_change.proofs.OfFile.{other_fault}
use Rattle.exh_change.proofs.splitting.split_fresh.Goals as goal

counted : (base : List ℕ) (draft : Draft) (file : PlacedFile) (prefix : List Bool) (ward : ℕ) → IsStampedHeader draft.header → IsOf base draft file → ward ≡ ward_of draft.header.settings.ward_bits (low_of prefix) → count_in file prefix < 2 ^ (20 - file.header.settings.ward_bits)
    → IsStampedHeader (counted_more ward draft.header)
counted base draft file prefix ward valid is ward_is room =
    let bits = draft.header.settings.ward_bits in
    let few = few_bits draft.header valid in
    let own : ward < 2 ^ bits = omega (arith, ward_is, leading-lt bits (low_of prefix) (omega (arith, few))) in
    let room_here = subst (λ (header : StampedHeader). slice_index header.page_counts (ward_of header.settings.ward_bits (low_of prefix)) < 2 ^ (20 - header.settings.ward_bits)) (sym is.header) room in
    counted_valid draft.header valid ward own (subst (λ (ward : ℕ). slice_index draft.header.page_counts ward < 2 ^ (20 - bits)) (sym ward_is) room_here)

pub ward_number-requires : goal.ward_number-requires
ward_number-requires g c = few_bits c.args.draft.now.header c.requires.sound.header

pub bounds-draft-ward : goal.bounds-draft-ward
bounds-draft-ward g c =
    let header = c.args.draft.now.header in
    let few = few_bits header c.requires.sound.header in
    omega (arith, c.from-ward.ensures, c.ward_number.ensures, leading-lt header.settings.ward_bits c.low.result (omega (arith, few)), c.requires.sound.header.plain.wards)

pub add_page-requires-clause-ward : goal.add_page-requires-clause-ward
add_page-requires-clause-ward g c =
    let header = c.args.draft.now.header in
    let few = few_bits header c.requires.sound.header in
    omega (arith, c.from-ward.ensures, c.ward_number.ensures, leading-lt header.settings.ward_bits c.low.result (omega (arith, few)), c.requires.sound.header.plain.wards)

pub returns-clause-home : goal.returns-clause-home
returns-clause-home g c =
    let old = c.args.draft.now in
    let new = c.put_page.new.draft in
    let halves = c.in_ok-halves.halves in
    let number = slice_index old.header.page_counts c.from-ward.result in
    let same : new.header ≡ c.add_page.new.draft.header = c.in_ok-put_page.ensures.header ∙ c.in_ok-put_cell.ensures.header in
    let keyer : old.header.settings.keyer ≡ new.header.settings.keyer = ap (λ (settings : _). settings.keyer) (sym c.in_ok-add_page.ensures.later.settings) ∙ ap (λ (header : StampedHeader). header.settings.keyer) (sym same) in
    let pages = c.in_ok-add_page.ensures.pages in
    let pages_new = ap (λ (header : StampedHeader). sum header.page_counts) same in
    let formed : (page : Page) → IsWellFormed (pseudo_in old) page → IsWellFormed (pseudo_in new) page = λ (page : Page) (formed : IsWellFormed (pseudo_in old) page). subst (λ (keyer : AnyKeyer). IsWellFormed (any_pseudokey keyer) page) keyer formed in
    home_then new c.args.pseudokey c.args.home.now.place c.page_count-place.result halves.left halves.right c.home_of.result
    (chosen c.args.prefix c.requires.prefix.0 c.requires.prefix.1 c.args.pseudokey c.args.home.now.place c.page_count-place.result number c.args.home.now.page halves.left halves.right c.home_of.result c.requires.short c.requires.prefix.2 c.requires.home.own c.in_ok-halves.ensures.left c.in_ok-halves.ensures.right c.home_of.ensures)
    (omega (arith, c.requires.home.there, pages, pages_new)) (omega (arith, c.page_count-place.ensures.count, pages, pages_new)) (formed halves.left c.in_ok-halves.ensures.left_formed) (formed halves.right c.in_ok-halves.ensures.right_formed)

pub returns-in_err-add_page-clause-legal : goal.returns-in_err-add_page-clause-legal
returns-in_err-add_page-clause-legal g c base file knows is link records page_is there cell_is room =
    let ward : c.from-ward.result ≡ ward_of c.args.draft.now.header.settings.ward_bits (low_of c.args.prefix) = c.from-ward.ensures ∙ c.ward_number.ensures ∙ ap (ward_of c.args.draft.now.header.settings.ward_bits) c.low.ensures in
    other_fault c.from_residual-in_err-add_page.result c.in_err-add_page.field-0.0 _ c.from_residual-in_err-add_page.ensures.1
    (c.in_err-add_page.ensures.legal (counted base c.args.draft.now file c.args.prefix c.from-ward.result c.requires.sound.header is ward room) base file knows is)

pub returns-in_err-put_cell-clause-legal : goal.returns-in_err-put_cell-clause-legal
returns-in_err-put_cell-clause-legal g c base file knows is link records page_is there cell_is room =
    let ward : c.from-ward.result ≡ ward_of c.args.draft.now.header.settings.ward_bits (low_of c.args.prefix) = c.from-ward.ensures ∙ c.ward_number.ensures ∙ ap (ward_of c.args.draft.now.header.settings.ward_bits) c.low.ensures in
    let number = slice_index c.args.draft.now.header.page_counts c.from-ward.result in
    let more = c.in_ok-add_page.ensures.legal (counted base c.args.draft.now file c.args.prefix c.from-ward.result c.requires.sound.header is ward room) base file knows is in
    other_fault c.from_residual-in_err-put_cell.result c.in_err-put_cell.field-0.0 _ c.from_residual-in_err-put_cell.ensures.1
    (c.in_err-put_cell.ensures.legal base (with_more c.from-ward.result c.in_ok-halves.halves.right (new_cell number) file) (c.in_ok-add_page.ensures.same_bytes ∙ knows) more)

pub returns-clause-legal : goal.returns-clause-legal
returns-clause-legal g c base file knows is link records page_is there cell_is room =
    let old = c.args.draft.now in
    let place = c.args.home.now.place in
    let prefix = c.args.prefix in
    let page = c.args.home.now.page in
    let cell = c.args.cell.now in
    let halves = c.in_ok-halves.halves in
    let ward_is : c.from-ward.result ≡ ward_of old.header.settings.ward_bits (low_of prefix) = c.from-ward.ensures ∙ c.ward_number.ensures ∙ ap (ward_of old.header.settings.ward_bits) c.low.ensures in
    let ward_in_file : c.from-ward.result ≡ ward_in file prefix = ward_is ∙ ap (λ (header : StampedHeader). ward_of header.settings.ward_bits (low_of prefix)) is.header in
    let number = slice_index old.header.page_counts c.from-ward.result in
    let number_is : number ≡ count_in file prefix = ap (slice_index old.header.page_counts) ward_in_file ∙ ap (λ (header : StampedHeader). slice_index header.page_counts (ward_in file prefix)) is.header in
    let right_place : c.page_count-place.result ≡ length file.pages = c.page_count-place.ensures.count ∙ ap (λ (header : StampedHeader). sum header.page_counts) is.header ∙ sym is.is.valid.count in
    let len : c.from.result ≡ length prefix = c.from.ensures ∙ c.len.ensures.length in
    let more = c.in_ok-add_page.ensures.legal (counted base old file prefix c.from-ward.result c.requires.sound.header is ward_is room) base file knows is in
    let more_file = with_more c.from-ward.result halves.right (new_cell number) file in
    let celled = c.in_ok-put_cell.ensures.legal base more_file (c.in_ok-add_page.ensures.same_bytes ∙ knows) more in
    let changed = subst (λ (cell : Cell). IsOf base c.put_cell.new.draft (with_cell place cell more_file)) c.with_change-cell.ensures.is celled in
    let paged = c.in_ok-put_page.ensures.is base (with_cell place (with_change c.from.result c.page_count-place.result cell) more_file) changed in
    let picked = chosen prefix link records c.args.pseudokey place c.page_count-place.result number page halves.left halves.right c.home_of.result c.requires.short page_is c.requires.home.own c.in_ok-halves.ensures.left c.in_ok-halves.ensures.right c.home_of.ensures in
    record {
      is = fresh_is base c.put_page.new.draft file place c.page_count-place.result number c.from-ward.result c.from.result prefix link records cell page halves.left halves.right page_is c.in_ok-halves.ensures.left c.in_ok-halves.ensures.right number_is ward_in_file len right_place paged;
      own = home_fresh file c.args.pseudokey place prefix link records cell page c.home_of.result there
          (chosen_at prefix link records c.args.pseudokey place c.page_count-place.result (length file.pages) number (count_in file prefix) page halves.left halves.right c.home_of.result page_is c.in_ok-halves.ensures.left c.in_ok-halves.ensures.right number_is right_place picked);
    }

pub returns-clause-halved : goal.returns-clause-halved
returns-clause-halved g c = record {
  right = c.page_count-place.result;
  which = one_of _ _ c.args.home.now.place c.page_count-place.result c.in_ok-halves.halves.left c.in_ok-halves.halves.right c.home_of.result c.home_of.ensures;
  more = fresh_more c.args.home.now.place c.page_count-place.result c.args.draft.now c.add_page.new.draft c.put_cell.new.draft c.put_page.new.draft
      (subst (λ (place : ℕ). EditsMore (0 ∷ blocks_at place) c.args.draft.now c.add_page.new.draft) (sym c.page_count-place.ensures.count) c.in_ok-add_page.ensures.more) c.in_ok-put_cell.ensures.more c.in_ok-put_page.ensures.more;
}
