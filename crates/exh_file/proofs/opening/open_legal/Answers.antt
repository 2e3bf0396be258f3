use Rattle.std.proofs.Common.{◌≡◌, List, Result, Ok, Err, IfErr, IsErrAnd, length, map, sym, ap, ◌∙◌, subst}
use Rattle.std.proofs.lemmas.List.{length-map}
use Rattle.std.specs.List.{AllByRecursion}
use Rattle.exh_keyer.specs.Pseudokey.{any_pseudokey}
use Rattle.exh_format.specs.LegalFileLemmas.{count_of_wards}
use Rattle.exh_format.specs.FileParts.{TakesFormed, file_read}
use Rattle.exh_page.specs.declared.page.Page.{Page}
use Rattle.exh_file.specs.OpenFault.{HasCountedOne}
use Rattle.exh_file.specs.declared.open_fault.OpenFault.{OpenFault}
use Rattle.exh_file.specs.declared.open_fault.OpenFault.TheVariants.{Page as Unreached}
use Rattle.exh_file.proofs.OpenLegal.{count_tables, legal_wards, opened_file, wards_of_file}
use Rattle.exh_file.proofs.opening.open_legal.Goals as goal

err_as : {T : Type 0} (r : Result T OpenFault) (fault : OpenFault) (P : OpenFault → Type 0) → IsErrAnd r (λ other. other ≡ fault) → P fault → IfErr r P
err_as (Ok value) fault P is holds = tt
err_as (Err other) fault P is holds = subst P (sym is) holds

pub open_wards-requires-clause-header : goal.open_wards-requires-clause-header
open_wards-requires-clause-header g c = (c.requires.file.0, c.requires.file.1.header)

pub open_wards-requires-clause-pages : goal.open_wards-requires-clause-pages
open_wards-requires-clause-pages g c =
    ap length c.deref_mut.ensures.value ∙ sym (length-map c.args.legal.now.parts.wards.items g.M.Read.PageList.pages) ∙ count_of_wards (file_read g.M.Read.PageList.pages c.args.legal.now.parts) c.requires.file

pub open_wards-requires-clause-tables : goal.open_wards-requires-clause-tables
open_wards-requires-clause-tables g c =
    let file = file_read g.M.Read.PageList.pages c.args.legal.now.parts in
    count_tables g.M.Read.PageList.pages file c.deref_mut.result.now c.deref_mut-2.result.now c.requires.file (ap (map g.M.Read.PageList.pages) (sym c.deref_mut.ensures.value)) (c.deref_mut-2.ensures.value ∙ c.requires.tables)

pub open_wards-requires-clause-legal : goal.open_wards-requires-clause-legal
open_wards-requires-clause-legal g c =
    let file = file_read g.M.Read.PageList.pages c.args.legal.now.parts in
    legal_wards g.M.Read.PageList.pages file c.deref_mut.result.now c.deref_mut-2.result.now c.requires.file (ap (map g.M.Read.PageList.pages) (sym c.deref_mut.ensures.value)) (c.deref_mut-2.ensures.value ∙ c.requires.tables) c.legal_files_pass.ensures c.requires.legal

pub new-requires : goal.new-requires
new-requires g c =
    let file = file_read g.M.Read.PageList.pages c.args.legal.now.parts in
    wards_of_file g.M.Read.PageList.pages file c.deref_mut.result.now c.deref_mut-2.result.now c.requires.file (ap (map g.M.Read.PageList.pages) (sym c.deref_mut.ensures.value)) (c.deref_mut-2.ensures.value ∙ c.requires.tables)
    c.in_ok-wards.wards.items c.in_ok-wards.ensures.count c.in_ok-wards.ensures.opened

pub returns-clause-opened : goal.returns-clause-opened
returns-clause-opened g c =
    let file = file_read g.M.Read.PageList.pages c.args.legal.now.parts in
    opened_file g.M.Read.PageList.pages file c.deref_mut.result.now c.deref_mut-2.result.now c.requires.file (ap (map g.M.Read.PageList.pages) (sym c.deref_mut.ensures.value)) (c.deref_mut-2.ensures.value ∙ c.requires.tables)
    c.in_ok-wards.wards.items c.in_ok-wards.ensures.count c.in_ok-wards.ensures.opened c.new.result c.new.ensures

pub open_wards-requires-clause-takes : goal.open_wards-requires-clause-takes
open_wards-requires-clause-takes g c =
    subst (AllByRecursion (TakesFormed g.M.Read.ReadPages.takes (any_pseudokey c.args.legal.now.parts.header.settings.keyer))) (sym c.deref_mut.ensures.value) c.requires.takes

pub returns-in_err-wards-clause-counted : goal.returns-in_err-wards-clause-counted
returns-in_err-wards-clause-counted g c =
    let Counted : List (List Page) → OpenFault → Type 0 = λ wards fault. fault ≡ Unreached → HasCountedOne g.P.Pages.pages g.P.Pages.failures wards in
    err_as c.from_residual.result c.in_err-wards.field-0.0 (Counted (file_read g.M.Read.PageList.pages c.args.legal.now.parts).wards) c.from_residual.ensures.1
    (subst (λ pages. Counted (map g.M.Read.PageList.pages pages) c.in_err-wards.field-0.0) c.deref_mut.ensures.value c.in_err-wards.ensures.counted)
