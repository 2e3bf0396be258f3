use Rattle.std.proofs.Common.{◌≡◌, ℕ, List, None, Some, length, sym, ap, subst, arith}
use Rattle.exh_table.specs.Table.{TableMap}
use Rattle.exh_legal.specs.Reasons.{IsFirstReason}
use Rattle.exh_cells.specs.declared.cell.Cell.{Cell}
use Rattle.exh_cells.specs.Fit.{FitEach}
use Rattle.exh_cells.specs.Told.{AreTablesOf}
use Rattle.exh_versions.specs.LegalReading.{parts_with}
use Rattle.exh_versions.proofs.Legal.{first_from, fits_to, reason_to, some_bits, some_wards, tables_to}
use Rattle.exh_versions.proofs.legal_reading.tables_for.Goals as goal

pub tables_of_cells-requires-clause-bits : goal.tables_of_cells-requires-clause-bits
tables_of_cells-requires-clause-bits g c = some_bits g.W.PageList.pages c.args.parts.now c.requires

pub tables_of_cells-requires-clause-fit : goal.tables_of_cells-requires-clause-fit
tables_of_cells-requires-clause-fit g c =
    let parts = c.args.parts.now in
    subst (λ (lows : List ℕ). FitEach parts.header.settings.ward_bits lows c.deref-2.result.now) (sym c.deref.ensures.value)
    (subst (λ (cells : List Cell). FitEach parts.header.settings.ward_bits parts.lows.items cells) (sym c.deref-2.ensures.value) (c.are_fitting.ensures.0 c.if-not-are_fitting.false).each)

pub reason_of-requires-clause-tables : goal.reason_of-requires-clause-tables
reason_of-requires-clause-tables g c =
    omega (arith, some_wards g.W.PageList.pages c.args.parts.now c.requires, ap length c.deref-3.ensures.value, c.in_ok-tables.ensures.count)

-- the tables that were made are those of the parts
module _ (bits : ℕ) (lows read_lows : List ℕ) (cells read_cells : List Cell) (tables : List TableMap) where
  same_tables : lows ≡ read_lows → cells ≡ read_cells → AreTablesOf bits lows cells tables → AreTablesOf bits read_lows read_cells tables
  same_tables lows_are cells_are have = subst (λ (cells : List Cell). AreTablesOf bits read_lows cells tables) cells_are (subst (λ (lows : List ℕ). AreTablesOf bits lows cells tables) lows_are have)

pub returns-in-None-clause-tables : goal.returns-in-None-clause-tables
returns-in-None-clause-tables g c = λ file valid are.
    let own = g.W.PageList.pages in
    let parts = c.args.parts.now in
    let tables = c.in_ok-tables.tables.items in
    let fits = fits_to own parts file are (c.are_fitting.ensures.0 c.if-not-are_fitting.false) in
    let have = tables_to own parts file are tables (same_tables parts.header.settings.ward_bits c.deref.result.now parts.lows.items c.deref-2.result.now parts.cells.items tables c.deref.ensures.value c.deref-2.ensures.value c.in_ok-tables.ensures) in
    let found : IsFirstReason (parts_with own parts c.deref-3.result.now) None = subst (IsFirstReason (parts_with own parts c.deref-3.result.now)) c.in-None.is c.in_ok-reason.ensures in
    let first : IsFirstReason (parts_with own parts tables) None = subst (λ (tables : List TableMap). IsFirstReason (parts_with own parts tables) None) c.deref-3.ensures.value found in
    (fits, have, first_from file tables c.cells_and_tables_tell.ensures.tables fits have None (reason_to own parts file are tables None first))

pub returns-in-Some-clause-reason : goal.returns-in-Some-clause-reason
returns-in-Some-clause-reason g c = λ file valid are.
    let own = g.W.PageList.pages in
    let parts = c.args.parts.now in
    let tables = c.in_ok-tables.tables.items in
    let reason = c.in-Some.reason in
    let fits = fits_to own parts file are (c.are_fitting.ensures.0 c.if-not-are_fitting.false) in
    let have = tables_to own parts file are tables (same_tables parts.header.settings.ward_bits c.deref.result.now parts.lows.items c.deref-2.result.now parts.cells.items tables c.deref.ensures.value c.deref-2.ensures.value c.in_ok-tables.ensures) in
    let found : IsFirstReason (parts_with own parts c.deref-3.result.now) (Some reason) = subst (IsFirstReason (parts_with own parts c.deref-3.result.now)) c.in-Some.is c.in_ok-reason.ensures in
    let first : IsFirstReason (parts_with own parts tables) (Some reason) = subst (λ (tables : List TableMap). IsFirstReason (parts_with own parts tables) (Some reason)) c.deref-3.ensures.value found in
    first_from file tables c.cells_and_tables_tell.ensures.tables fits have (Some reason) (reason_to own parts file are tables (Some reason) first)
