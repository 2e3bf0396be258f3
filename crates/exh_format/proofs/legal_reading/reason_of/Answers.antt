use Rattle.std.proofs.Common.{length, map, ap, ◌∙◌, subst, arith}
use Rattle.std.specs.Prelude.{IfOk}
use Rattle.std.proofs.lemmas.List.{length-map}
use Rattle.exh_format.specs.FileParts.{file_read}
use Rattle.exh_legal.specs.LegalParts.{parts_of}
use Rattle.exh_legal.specs.Reasons.{IsFirstReason}
use Rattle.exh_format.proofs.Named.{count_of_tables}
use Rattle.exh_format.specs.LegalFileLemmas.{count_of_wards, few_bits}
use Rattle.exh_format.proofs.legal_reading.reason_of.Goals as goal

pub first_reason-requires-clause-bits : goal.first_reason-requires-clause-bits
first_reason-requires-clause-bits g c = omega (arith, few_bits (file_read g.W.PageList.pages c.args.parts.now) c.requires.file)

pub first_reason-requires-clause-tables : goal.first_reason-requires-clause-tables
first_reason-requires-clause-tables g c =
    let file = file_read g.W.PageList.pages c.args.parts.now in
    let wards = ap length c.deref.ensures.value in
    let all = length-map c.args.parts.now.wards.items g.W.PageList.pages in
    let tables = ap length c.requires.tables ∙ count_of_tables file.entries in
    omega (arith, wards, all, tables, count_of_wards file c.requires.file, c.requires.file.1.header.wards)

pub returns : goal.returns
returns g c =
    let file = file_read g.W.PageList.pages c.args.parts.now in
    let header = c.args.parts.now.header in
    subst (λ tables. IfOk c.first_reason.result (IsFirstReason (parts_of header.settings.cap header.settings.ward_bits file.wards tables))) c.requires.tables
    (subst (λ wards. IfOk c.first_reason.result (IsFirstReason (parts_of header.settings.cap header.settings.ward_bits (map g.W.PageList.pages wards) c.args.tables.now))) c.deref.ensures.value c.first_reason.ensures)
