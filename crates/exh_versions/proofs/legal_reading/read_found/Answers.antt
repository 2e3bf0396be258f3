use Rattle.std.proofs.Common.{refl}
use Rattle.exh_versions.specs.LegalReading.{IsLegalPlacedFaultOf}
use Rattle.exh_versions.proofs.LegalRead.{err_is, legal_found, reason_found}
use Rattle.exh_versions.proofs.legal_reading.read_found.Goals as goal

pub returns-clause-legal : goal.returns-clause-legal
returns-clause-legal g c =
    legal_found g.W.PageList.pages (g.R.Read.remaining c.args.reader.now) c.in_ok-parts.parts c.in_ok-parts.ensures.parts c.legal_files_pass.ensures c.cells_and_tables_tell.ensures.tables
    (record { parts = c.in_ok-parts.parts; tables = c.in_ok-tables.tables }) refl c.in_ok-tables.ensures.tables

pub returns-in_err-tables-clause-fault : goal.returns-in_err-tables-clause-fault
returns-in_err-tables-clause-fault g c =
    let known = g.R.Read.remaining c.args.reader.now in
    let fault = c.in_err-tables.field-0.0 in
    err_is c.from_residual-in_err-tables.result fault (IsLegalPlacedFaultOf known) c.from_residual-in_err-tables.ensures.1
    (reason_found g.W.PageList.pages known c.in_ok-parts.parts c.in_ok-parts.ensures.parts fault c.in_err-tables.ensures.reason)
