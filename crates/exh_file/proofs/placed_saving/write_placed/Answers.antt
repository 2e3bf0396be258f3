use Rattle.std.proofs.Common.{◌≡◌, ℕ, ◌≤◌, List, ◌++◌, length, refl, sym, ap, ◌∙◌, subst}
use Rattle.std.specs.List.{AllByRecursion, flat_map, range_with_len}
use Rattle.exh_prefix.specs.Layout.{written_version}
use Rattle.exh_codec.specs.PageImage.{IsInRange}
use Rattle.std.specs.Io.KnownBytes.{Appends}
use Rattle.exh_keyer.specs.declared.any_keyer.AnyKeyer.{AnyKeyer}
use Rattle.exh_page.specs.declared.page.TheConstants.{CAP_LIMIT}
use Rattle.exh_stream.specs.Output.{AppendsBeginning, Takes, TakesBeginning, held}
use Rattle.exh_stream.specs.OutputLemmas.{OnErr-from, Takes-cut, Takes-finished, Takes-then, TakesBeginning-left, TakesBeginning-of_more, TakesBeginning-then}
use Rattle.exh_placing.specs.declared.Cell.{Cell}
use Rattle.exh_placing.specs.declared.StampedHeader.{StampedHeader}
use Rattle.exh_placing.specs.PlacedFile.{placed_bytes, stamped_block}
use Rattle.exh_placing.specs.StampedHeader.{IsStampedHeader}
use Rattle.exh_placing.specs.declared.page_at.PageAt.{PageAt}
use Rattle.exh_placing.specs.Writing.{PlacesMakeFile, bytes_to, place_bytes}
use Rattle.exh_placing.specs.WardFile.{ArePagesOf}
use Rattle.exh_ward.specs.WardState.{WardState}
use Rattle.exh_file.specs.declared.placing.Placing.{Placing}
use Rattle.exh_file.specs.Opened.{OpenedState, in_file}
use Rattle.exh_file.specs.Placing.{ordered_pages, placed_file, stamped_header}
use Rattle.exh_file.specs.Saved.{pages_of_all}
use Rattle.exh_file.proofs.PlacedLegal.{cells_all, is_saving, pages_are}
use Rattle.exh_file.proofs.placed_saving.write_placed.Goals as goal

-- what stands at all places
abbrev places_bytes : List (WardState AnyKeyer) → List PageAt → List Cell → List ℕ
places_bytes wards order cells = flat_map (place_bytes (ordered_pages wards order) cells) (range_with_len 0 (length order))

same_places : (wards : List (WardState AnyKeyer)) {order lent : List PageAt} {cells lent_cells : List Cell} → lent ≡ order → lent_cells ≡ cells → places_bytes wards lent lent_cells ≡ places_bytes wards order cells
same_places wards same same_cells = λ i. places_bytes wards (same i) (same_cells i)

-- the header's block and that are the file
parts_are : PlacesMakeFile → (opened : OpenedState) (placing : Placing) (header : StampedHeader) → header ≡ stamped_header opened placing.stamps → ArePagesOf (pages_of_all opened.wards) placing.order.items (ordered_pages opened.wards placing.order.items)
    → stamped_block header ++ places_bytes opened.wards placing.order.items placing.cells.items ≡ placed_bytes (placed_file opened placing)
parts_are make opened placing header is are =
    let bytes = places_bytes opened.wards placing.order.items placing.cells.items in
    ap (λ (h : StampedHeader). stamped_block h ++ bytes) is ∙ ap (bytes_to (placed_file opened placing)) (sym are.count) ∙ make (placed_file opened placing)

pub write_header-requires : goal.write_header-requires
write_header-requires g c = c.stamped_header_of-header.ensures.valid

pub write_places-requires-clause-all : goal.write_places-requires-clause-all
write_places-requires-clause-all g c =
    let all = cells_all (in_file c.args.settings c.args.wards.now) c.requires.wards c.stamped_header_of-header.ensures.sound c.fitting_tables_begin_wards.ensures c.args.placing.now c.requires.placing c.orders_give_pages.ensures in
    ap length c.deref-2.ensures.value ∙ all ∙ ap length (sym c.deref.ensures.value)

pub write_places-requires-clause-are : goal.write_places-requires-clause-are
write_places-requires-clause-are g c =
    subst (λ (order : List PageAt). ArePagesOf (pages_of_all c.args.wards.now) order (ordered_pages c.args.wards.now order)) (sym c.deref.ensures.value)
    (pages_are (in_file c.args.settings c.args.wards.now) c.requires.wards c.stamped_header_of-header.ensures.sound c.fitting_tables_begin_wards.ensures c.args.placing.now c.requires.placing c.orders_give_pages.ensures)

pub write_places-requires-clause-caps : goal.write_places-requires-clause-caps
write_places-requires-clause-caps g c number ward there = subst (λ (cap : ℕ). cap ≤ CAP_LIMIT) (sym (c.requires.wards.each number ward there).cap) c.requires.wards.most

pub returns-in_err-write_header-clause-err : goal.returns-in_err-write_header-clause-err
returns-in_err-write_header-clause-err g c =
    let contents = g.W.Write.contents in
    let opened = in_file c.args.settings c.args.wards.now in
    let placing = c.args.placing.now in
    let are = pages_are opened c.requires.wards c.stamped_header_of-header.ensures.sound c.fitting_tables_begin_wards.ensures placing c.requires.placing c.orders_give_pages.ensures in
    let whole = parts_are c.places_make_files.ensures.whole opened placing c.stamped_header_of-header.result c.stamped_header_of-header.ensures.header are in
    let begun = TakesBeginning-of_more (places_bytes opened.wards placing.order.items placing.cells.items) c.in_err-write_header.ensures.err in
    OnErr-from c.from_residual.result (subst (AppendsBeginning (held contents c.args.output.now) (held contents c.write_header.new.output)) whole
    (TakesBeginning-left contents c.args.output.now c.write_header.new.output c.write_header.new.output c.requires.bare _ begun refl))

pub returns-in_err-write_places-clause-err : goal.returns-in_err-write_places-clause-err
returns-in_err-write_places-clause-err g c =
    let contents = g.W.Write.contents in
    let opened = in_file c.args.settings c.args.wards.now in
    let placing = c.args.placing.now in
    let are = pages_are opened c.requires.wards c.stamped_header_of-header.ensures.sound c.fitting_tables_begin_wards.ensures placing c.requires.placing c.orders_give_pages.ensures in
    let whole = parts_are c.places_make_files.ensures.whole opened placing c.stamped_header_of-header.result c.stamped_header_of-header.ensures.header are in
    let rest = subst (TakesBeginning contents c.write_header.new.output c.write_places.new.output) (same_places opened.wards c.deref.ensures.value c.deref-2.ensures.value) c.in_err-write_places.ensures.err in
    OnErr-from c.from_residual-in_err-write_places.result (subst (AppendsBeginning (held contents c.args.output.now) (held contents c.write_places.new.output)) whole
    (TakesBeginning-left contents c.args.output.now c.write_places.new.output c.write_places.new.output c.requires.bare _ (TakesBeginning-then c.in_ok-write_header.ensures.ok rest) refl))

pub returns-in_err-finish-clause-err : goal.returns-in_err-finish-clause-err
returns-in_err-finish-clause-err g c =
    let contents = g.W.Write.contents in
    let opened = in_file c.args.settings c.args.wards.now in
    let placing = c.args.placing.now in
    let are = pages_are opened c.requires.wards c.stamped_header_of-header.ensures.sound c.fitting_tables_begin_wards.ensures placing c.requires.placing c.orders_give_pages.ensures in
    let whole = parts_are c.places_make_files.ensures.whole opened placing c.stamped_header_of-header.result c.stamped_header_of-header.ensures.header are in
    let rest = subst (Takes contents c.write_header.new.output c.write_places.new.output) (same_places opened.wards c.deref.ensures.value c.deref-2.ensures.value) c.in_ok-write_places.ensures.ok in
    OnErr-from c.from_residual-in_err-finish.result (subst (AppendsBeginning (held contents c.args.output.now) (held contents c.finish.new.self)) whole
    (Takes-cut contents c.args.output.now c.write_places.new.output c.finish.new.self c.requires.bare _ (Takes-then c.in_ok-write_header.ensures.ok rest) c.in_err-finish.ensures.err))

pub returns-clause-ok : goal.returns-clause-ok
returns-clause-ok g c =
    let contents = g.W.Write.contents in
    let opened = in_file c.args.settings c.args.wards.now in
    let placing = c.args.placing.now in
    let are = pages_are opened c.requires.wards c.stamped_header_of-header.ensures.sound c.fitting_tables_begin_wards.ensures placing c.requires.placing c.orders_give_pages.ensures in
    let whole = parts_are c.places_make_files.ensures.whole opened placing c.stamped_header_of-header.result c.stamped_header_of-header.ensures.header are in
    let rest = subst (Takes contents c.write_header.new.output c.write_places.new.output) (same_places opened.wards c.deref.ensures.value c.deref-2.ensures.value) c.in_ok-write_places.ensures.ok in
    subst (Appends (held contents c.args.output.now) (held contents c.finish.new.self)) whole
    (Takes-finished contents c.args.output.now c.write_places.new.output c.finish.new.self c.requires.bare _ (Takes-then c.in_ok-write_header.ensures.ok rest) c.in_ok-finish.ensures.ok)

pub returns-clause-legal : goal.returns-clause-legal
returns-clause-legal g c =
    let opened = in_file c.args.settings c.args.wards.now in
    let placing = c.args.placing.now in
    let header = subst IsStampedHeader c.stamped_header_of-header.ensures.header c.stamped_header_of-header.ensures.valid in
    let ranges = subst (λ (order : List PageAt). AllByRecursion (IsInRange written_version) (ordered_pages opened.wards order)) c.deref.ensures.value c.in_ok-write_places.ensures.pages in
    is_saving opened c.requires.wards c.stamped_header_of-header.ensures.sound c.fitting_tables_begin_wards.ensures placing c.requires.placing c.orders_give_pages.ensures c.legal_files_pass.ensures header ranges c.legal_wards_give_files.ensures
