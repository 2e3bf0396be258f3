use Rattle.std.proofs.Common.{◌≡◌, ℕ, List, length, take, refl, sym, ap, ◌∙◌, subst, arith}
use Rattle.std.proofs.lemmas.List.{length-map}
use Rattle.exh_keyer.specs.Pseudokey.{any_pseudokey}
use Rattle.exh_keyer.specs.declared.any_keyer.AnyKeyer.{AnyKeyer}
use Rattle.exh_page.specs.Page.{low_bound}
use Rattle.exh_legal.specs.LegalLaws.{FittingTablesBeginWards}
use Rattle.exh_placing.specs.CellLaws.{AreApart, AreTold}
use Rattle.exh_placing.specs.PlacedFile.{lows_of}
use Rattle.exh_placing.specs.declared.page_at.PageAt.{PageAt}
use Rattle.exh_placing.specs.Placed.{HavePlaces}
use Rattle.exh_placing.specs.PlacingLaws.{LegalWardsHavePlaces, OrdersGivePages}
use Rattle.exh_placing.specs.WardFile.{ArePagesOf}
use Rattle.exh_ward.specs.WardState.{WardState}
use Rattle.exh_file.specs.Opened.{AreWardsOf, OpenedState, in_file}
use Rattle.exh_file.specs.Placing.{IsWardOrder, ordered_pages, tables_of_all}
use Rattle.exh_file.specs.Saved.{AreSound, pages_of_all}
use Rattle.exh_file.proofs.FewPlaces.{few_places}
use Rattle.exh_file.proofs.PlacedLegal.{all_legal}
use Rattle.exh_file.proofs.placing_making.placing_in.Goals as goal

-- the pages in an order have different low bounds, and the tables' entries their places
have_places : (opened : OpenedState) → AreWardsOf opened → AreSound opened.wards → FittingTablesBeginWards → LegalWardsHavePlaces → OrdersGivePages → (order : List PageAt) → IsWardOrder opened.wards order
    → AreApart (lows_of (ordered_pages opened.wards order)) × HavePlaces opened.ward_bits (lows_of (ordered_pages opened.wards order)) (tables_of_all opened.wards)
have_places opened are sound begin have give order is =
    let wards_count : length (pages_of_all opened.wards) ≡ length opened.wards = length-map opened.wards (λ (w : WardState AnyKeyer). w.pages) in
    let tables_count : length (tables_of_all opened.wards) ≡ length opened.wards = length-map opened.wards (λ (w : WardState AnyKeyer). w.table) in
    have (any_pseudokey opened.keyer) opened.cap opened.ward_bits (pages_of_all opened.wards) (tables_of_all opened.wards) order (ordered_pages opened.wards order) are.bits (wards_count ∙ are.count) (tables_count ∙ are.count)
    (all_legal opened are sound begin) is.all (give (pages_of_all opened.wards) order is.all)

pub lows_in-requires : goal.lows_in-requires
lows_in-requires g c =
    subst (λ (order : List PageAt). ArePagesOf (pages_of_all c.args.wards.now) order (ordered_pages c.args.wards.now order)) (sym c.deref.ensures.value) (c.orders_give_pages.ensures (pages_of_all c.args.wards.now) c.args.order.items c.requires.order.all)

pub cells_of_tables-requires-clause-few : goal.cells_of_tables-requires-clause-few
cells_of_tables-requires-clause-few g c =
    let wards = c.args.wards.now in
    let opened = in_file c.args.settings wards in
    let are = c.orders_give_pages.ensures (pages_of_all wards) c.args.order.items c.requires.order.all in
    let lows = c.in_ok-lows.ensures.lows ∙ ap (λ (order : List PageAt). lows_of (ordered_pages wards order)) c.deref.ensures.value in
    let few = few_places opened c.requires.wards c.requires.sound c.fitting_tables_begin_wards.ensures c.pages_are_few.ensures c.args.order.items c.requires.order.all in
    omega (arith, ap length c.deref-3.ensures.value, ap length lows, length-map (ordered_pages wards c.args.order.items) low_bound, are.count, few)

pub cells_of_tables-requires-clause-apart : goal.cells_of_tables-requires-clause-apart
cells_of_tables-requires-clause-apart g c =
    let wards = c.args.wards.now in
    let have = have_places (in_file c.args.settings wards) c.requires.wards c.requires.sound c.fitting_tables_begin_wards.ensures c.legal_wards_have_places.ensures c.orders_give_pages.ensures c.args.order.items c.requires.order in
    let lows = c.deref-3.ensures.value ∙ c.in_ok-lows.ensures.lows ∙ ap (λ (order : List PageAt). lows_of (ordered_pages wards order)) c.deref.ensures.value in
    subst AreApart (sym lows) have.0

pub cells_of_tables-requires-clause-tables : goal.cells_of_tables-requires-clause-tables
cells_of_tables-requires-clause-tables g c =
    let wards = c.args.wards.now in
    let have = have_places (in_file c.args.settings wards) c.requires.wards c.requires.sound c.fitting_tables_begin_wards.ensures c.legal_wards_have_places.ensures c.orders_give_pages.ensures c.args.order.items c.requires.order in
    let lows = c.deref-3.ensures.value ∙ c.in_ok-lows.ensures.lows ∙ ap (λ (order : List PageAt). lows_of (ordered_pages wards order)) c.deref.ensures.value in
    subst (λ (ws : List (WardState AnyKeyer)). HavePlaces c.args.settings.ward_bits c.deref-3.result.now (tables_of_all ws)) (sym c.in_ok-lows.ensures.same)
    (subst (λ (l : List ℕ). HavePlaces c.args.settings.ward_bits l (tables_of_all wards)) (sym lows) have.1)

pub returns-clause-placing : goal.returns-clause-placing
returns-clause-placing g c =
    let wards = c.args.wards.now in
    let lows = c.deref-3.ensures.value ∙ c.in_ok-lows.ensures.lows ∙ ap (λ (order : List PageAt). lows_of (ordered_pages wards order)) c.deref.ensures.value in
    let told = subst (λ (l : List ℕ). AreTold c.args.settings.ward_bits l c.in_ok-cells.cells.items (tables_of_all c.lows_in.new.wards)) lows c.in_ok-cells.ensures in
    record {
      is = record {
        order_is = c.requires.order.all;
        firsts = c.requires.order.firsts;
        cells_are = subst (λ (ws : List (WardState AnyKeyer)). AreTold c.args.settings.ward_bits (lows_of (ordered_pages wards c.args.order.items)) c.in_ok-cells.cells.items (tables_of_all ws)) c.in_ok-lows.ensures.same told;
      };
      order_is = refl;
      stamps_are = refl;
    }

pub returns-clause-begins : goal.returns-clause-begins
returns-clause-begins g c =
    let wards = c.args.wards.now in
    let lows = c.deref-2.ensures.value ∙ c.in_ok-lows.ensures.lows ∙ ap (λ (order : List PageAt). lows_of (ordered_pages wards order)) c.deref.ensures.value in
    subst (λ (l : List ℕ). take (length c.args.old.now) l ≡ c.args.old.now) lows (c.begins_with.ensures.0 c.if-not-begins_with.false)
