use Rattle.std.proofs.Common.{◌≡◌, ℕ, ◌≤◌, List, length, take, Option, None, Some, sym, ap, ◌∙◌, subst, arith}
use Rattle.std.proofs.lemmas.List.{length-map}
use Rattle.exh_format.specs.FileVersion.{format_of, version_of}
use Rattle.exh_format.specs.FileParts.{file_read}
use Rattle.exh_format.specs.PageFile.{IsKnownFile, IsPageFile, PageFile}
use Rattle.exh_format.specs.Reading.{IsAll}
use Rattle.exh_format.specs.declared.legal_file_fault.LegalFileFault.TheVariants.{Illegal}
use Rattle.exh_legal.specs.declared.reason.Reason.{Reason}
use Rattle.exh_format.specs.declared.tables.TheConstants.{NAMED_WARDS}
use Rattle.exh_legal.specs.Reasons.{IsFirstReason}
use Rattle.exh_format.specs.LegalFile.{IsLegalFileFaultOf, parts_in, tables_of}
use Rattle.exh_format.proofs.Named.{front_of_tables}
use Rattle.exh_format.specs.LegalFileLemmas.{count_of_wards}
use Rattle.exh_format.proofs.Parts.{legal_without}
use Rattle.exh_format.proofs.legal_reading.read_found.Goals as goal

told_illegal : (known : Option (List ℕ)) (bytes : List ℕ) (file : PageFile) (reason : Reason) → IsAll known bytes → IsPageFile (format_of bytes) file bytes → IsFirstReason (parts_in file) (Some reason)
    → IsLegalFileFaultOf known (Illegal reason)
told_illegal None bytes file reason is page first = tt
told_illegal (Some all) bytes file reason is page first = (file, subst (λ bytes. IsPageFile (format_of bytes) file bytes) (sym is) page, first)

pub reason_of-requires-clause-tables : goal.reason_of-requires-clause-tables
reason_of-requires-clause-tables g c = c.deref-2.ensures.value ∙ c.in_ok-tables.ensures ∙ ap tables_of c.deref.ensures.value

pub returns-in-Some-clause-fault : goal.returns-in-Some-clause-fault
returns-in-Some-clause-fault g c =
    let file = file_read g.W.PageList.pages c.in_ok-parts.parts in
    let read = c.in_ok-parts.ensures.parts in
    told_illegal (g.R.Read.remaining c.args.reader.now) read.0 file c.in-Some.reason read.1 read.3 (subst (IsFirstReason (parts_in file)) c.in-Some.is c.in_ok-reason.ensures)

pub returns-in-None-clause-legal : goal.returns-in-None-clause-legal
returns-in-None-clause-legal g c =
    let read = c.in_ok-parts.ensures.parts in
    (read.0, read.1, read.2, record { is = read.3; legal = legal_without c.legal_files_pass.ensures (file_read g.W.PageList.pages c.in_ok-parts.parts) (version_of read.0, read.3.valid) (subst (IsFirstReason (parts_in (file_read g.W.PageList.pages c.in_ok-parts.parts))) c.in-None.is c.in_ok-reason.ensures) })

pub returns-in-None-clause-tables : goal.returns-in-None-clause-tables
returns-in-None-clause-tables g c =
    let parts = c.in_ok-parts.parts in
    let file = file_read g.W.PageList.pages parts in
    let read = c.in_ok-parts.ensures.parts in
    let valid : IsKnownFile file = (version_of read.0, read.3.valid) in
    let long : c.len.result ≡ length file.wards = omega (arith, c.len.ensures, parts.wards.ok.0, length-map parts.wards.items g.W.PageList.pages) in
    let few : length file.wards ≤ NAMED_WARDS = omega (arith, count_of_wards file valid, valid.1.header.wards) in
    c.truncate.ensures.items ∙ ap (λ n. take n c.in_ok-tables.tables.items) long ∙ ap (take (length file.wards)) (c.in_ok-tables.ensures ∙ ap tables_of c.deref.ensures.value) ∙ front_of_tables file.entries (length file.wards) few
