use Rattle.std.proofs.Common.{◌≡◌, ◌+◌, ◌<◌, ◌≤◌, ℕ, List, [], ◌++◌, ◌∷◌, None, Some, slice_get, Result, Ok, Err, IfErr, IsErrAnd, length, map, refl, sym, ap, ◌∙◌, subst, arith}
use Rattle.std.proofs.lemmas.List.{length_push}
use Rattle.std.proofs.lemmas.List.Elements.{All-from_recursion, All-get_or}
use Rattle.std.specs.Option.{option_map}
use Rattle.std.proofs.lemmas.Option.{get_or_from_slice_get, slice_get-map, slice_get_read, slice_get_within}
use Rattle.exh_page.specs.declared.page.Page.{Page}
use Rattle.exh_format.specs.FileParts.{TakesFormed}
use Rattle.exh_keyer.specs.Pseudokey.{any_pseudokey}
use Rattle.exh_keyer.specs.declared.any_keyer.AnyKeyer.{AnyKeyer}
use Rattle.exh_table.specs.Table.{TableMap}
use Rattle.exh_format.specs.declared.header.Header.{Header}
use Rattle.exh_format.specs.declared.legal_file_fault.LegalFileFault.TheVariants.{Memory}
use Rattle.exh_ward.specs.WardState.{WardState}
use Rattle.exh_file.specs.declared.open_fault.OpenFault.{OpenFault}
use Rattle.exh_file.specs.declared.open_fault.OpenFault.TheVariants.{File, Page as OutOfReach}
use Rattle.exh_file.specs.OpenFault.{HasCounted, HasCountedOne, IsCounted, IsOtherOpening}
use Rattle.exh_file.specs.Opening.{AreOpened, IsLegalWard, IsOpenedWard}
use Rattle.exh_file.proofs.OpenLegal.{more_opened, untouched}
use Rattle.exh_file.proofs.opening.open_wards.Goals as goal

less_as : {number many same : ℕ} → number < many → same ≡ many → number < same
less_as less is = omega (arith, less, is)

later : (number : ℕ) {at : ℕ} → number + 1 ≤ at → number < at
later number past = omega (arith, past)

still_later : (number : ℕ) {at : ℕ} → number + 1 ≤ at → number ≤ at
still_later number past = omega (arith, past)

at_least : (number : ℕ) → number ≤ number
at_least number = omega arith

so_many : {number count : ℕ} → number ≤ count → count ≤ number → number ≡ count
so_many most least = omega arith

memory_counted : {P T : Type 0} (pages_of : P → List Page) (failures : P → ℕ) (wards : List (List Page)) (r : Result T OpenFault) → IsErrAnd r (λ fault. fault ≡ File Memory) → IsCounted pages_of failures wards r
memory_counted pages_of failures wards (Ok value) is = tt
memory_counted pages_of failures wards (Err fault) is = λ page. let other : File Memory ≡ OutOfReach = sym is ∙ page in cc

memory_other : {T : Type 0} (r : Result T OpenFault) → IsErrAnd r (λ fault. fault ≡ File Memory) → IfErr r IsOtherOpening
memory_other (Ok value) is = tt
memory_other (Err fault) is = subst IsOtherOpening (sym is) tt

err_as : {T : Type 0} (r : Result T OpenFault) (fault : OpenFault) (P : OpenFault → Type 0) → IsErrAnd r (λ other. other ≡ fault) → P fault → IfErr r P
err_as (Ok value) fault P is holds = tt
err_as (Err other) fault P is holds = subst P (sym is) holds

none_opened : {W : Type 0} (pages_of : W → List Page) (header : Header) (pages : List W) (tables : List TableMap) (wards : List (WardState AnyKeyer)) → wards ≡ [] → AreOpened pages_of header pages tables wards
none_opened pages_of header pages tables wards is number own table ward there told at = let none : None ≡ Some ward = sym (ap (λ wards. slice_get wards number) is) ∙ at in cc

pub loop-number-init : goal.loop-number-init
loop-number-init g c = record {
  count = ap length c.new-wards.ensures.items;
  opened = none_opened g.M.Read.PageList.pages c.args.header.now c.args.pages.now c.args.tables.now c.new-wards.result.items c.new-wards.ensures.items;
  pages = λ at past. refl;
  tables = λ at past. refl;
}

pub returns-in_err-push_item-clause-counted : goal.returns-in_err-push_item-clause-counted
returns-in_err-push_item-clause-counted g c = memory_counted g.P.Pages.pages g.P.Pages.failures (map g.M.Read.PageList.pages c.args.pages.now) c.from_residual-in_err-push_item.result c.from_residual-in_err-push_item.ensures.1

pub returns-in_err-push_item-clause-fault : goal.returns-in_err-push_item-clause-fault
returns-in_err-push_item-clause-fault g c = memory_other c.from_residual-in_err-push_item.result c.from_residual-in_err-push_item.ensures.1

pub returns-in_err-ward-clause-counted : goal.returns-in_err-ward-clause-counted
returns-in_err-ward-clause-counted g c =
    let number = c.loop-number.number in
    let less = less_as c.loop-number-test.true c.loop-number.auto.pages in
    let own = sym (c.loop-number.invariant.pages number (at_least number)) ∙ slice_get_read c.loop-number.pages (length c.loop-number.pages) number c.index-pages-number.result refl less c.index-pages-number.is in
    let wards = map g.M.Read.PageList.pages c.args.pages.now in
    let there : slice_get wards number ≡ Some (g.M.Read.PageList.pages c.index-pages-number.result) = slice_get-map g.M.Read.PageList.pages c.args.pages.now number ∙ ap (option_map g.M.Read.PageList.pages) own in
    err_as c.from_residual.result c.in_err-ward.field-0.0 (λ fault. fault ≡ OutOfReach → HasCountedOne g.P.Pages.pages g.P.Pages.failures wards) c.from_residual.ensures.1 (λ page.
    let counted = subst (λ o. HasCounted g.P.Pages.pages g.P.Pages.failures (g.M.Read.PageList.pages o)) (c.replace-own.ensures.value ∙ sym c.index-pages-number.is) (c.in_err-ward.ensures.counted page) in
    (number, g.M.Read.PageList.pages c.index-pages-number.result, there, counted))

pub returns-clause-count : goal.returns-clause-count
returns-clause-count g c = c.loop-number.invariant.count ∙ so_many c.loop-number.auto.number-end c.loop-number-test.false ∙ c.requires.pages

pub open_ward-requires-clause-legal : goal.open_ward-requires-clause-legal
open_ward-requires-clause-legal g c =
    let header = c.args.header.now in
    let number = c.loop-number.number in
    let less = less_as c.loop-number-test.true c.loop-number.auto.pages in
    let within = less_as c.loop-number-test.true (c.loop-number.auto.tables ∙ c.requires.tables ∙ sym c.requires.pages) in
    let own = sym (c.loop-number.invariant.pages number (at_least number)) ∙ slice_get_read c.loop-number.pages (length c.loop-number.pages) number c.index-pages-number.result refl less c.index-pages-number.is in
    let table = sym (c.loop-number.invariant.tables number (at_least number)) ∙ slice_get_read c.loop-number.tables (length c.loop-number.tables) number c.index-tables-number.result refl within c.index-tables-number.is in
    subst (λ t. IsLegalWard header number (g.M.Read.PageList.pages c.replace-own.result) t) (sym (c.replace-table.ensures.value ∙ sym c.index-tables-number.is))
    (subst (λ o. IsLegalWard header number (g.M.Read.PageList.pages o) c.index-tables-number.result) (sym (c.replace-own.ensures.value ∙ sym c.index-pages-number.is)) (c.requires.legal number c.index-pages-number.result c.index-tables-number.result own table))

pub open_ward-requires-clause-takes : goal.open_ward-requires-clause-takes
open_ward-requires-clause-takes g c =
    let number = c.loop-number.number in
    let Takes = TakesFormed g.M.Read.ReadPages.takes (any_pseudokey c.args.header.now.settings.keyer) in
    let less = less_as c.loop-number-test.true c.loop-number.auto.pages in
    let own = sym (c.loop-number.invariant.pages number (at_least number)) ∙ slice_get_read c.loop-number.pages (length c.loop-number.pages) number c.index-pages-number.result refl less c.index-pages-number.is in
    let all = All-from_recursion Takes c.args.pages.now c.requires.takes in
    let one = c.index-pages-number.result in
    subst Takes (sym (c.replace-own.ensures.value ∙ sym c.index-pages-number.is))
    (subst Takes (get_or_from_slice_get c.args.pages.now number one one own) (All-get_or Takes c.args.pages.now number one (slice_get_within c.args.pages.now number one own) all))

pub loop-number-preserved : goal.loop-number-preserved
loop-number-preserved g c =
    let header = c.args.header.now in
    let number = c.loop-number.number in
    let wards = c.loop-number.wards.items in
    let less = less_as c.loop-number-test.true c.loop-number.auto.pages in
    let within = less_as c.loop-number-test.true (c.loop-number.auto.tables ∙ c.requires.tables ∙ sym c.requires.pages) in
    let own = sym (c.loop-number.invariant.pages number (at_least number)) ∙ slice_get_read c.loop-number.pages (length c.loop-number.pages) number c.index-pages-number.result refl less c.index-pages-number.is in
    let table = sym (c.loop-number.invariant.tables number (at_least number)) ∙ slice_get_read c.loop-number.tables (length c.loop-number.tables) number c.index-tables-number.result refl within c.index-tables-number.is in
    let made = subst (λ t. IsOpenedWard header number (g.M.Read.PageList.pages c.index-pages-number.result) t c.in_ok-ward.ward) (c.replace-table.ensures.value ∙ sym c.index-tables-number.is)
    (subst (λ o. IsOpenedWard header number (g.M.Read.PageList.pages o) c.replace-table.result c.in_ok-ward.ward) (c.replace-own.ensures.value ∙ sym c.index-pages-number.is) c.in_ok-ward.ensures.opened) in
    let now = c.push_item.new.items.items in
    let pushed : now ≡ wards ++ c.in_ok-ward.ward ∷ [] = c.in_ok-push_item.ensures.ok in
    let back : wards ++ c.in_ok-ward.ward ∷ [] ≡ now = sym pushed in
    record {
      count = ap length pushed ∙ length_push wards c.in_ok-ward.ward ∙ ap (λ n. n + 1) c.loop-number.invariant.count;
      opened = subst (AreOpened g.M.Read.PageList.pages header c.args.pages.now c.args.tables.now) back
          (more_opened g.M.Read.PageList.pages header c.args.pages.now c.args.tables.now wards c.in_ok-ward.ward number c.index-pages-number.result c.index-tables-number.result c.loop-number.invariant.count own table made c.loop-number.invariant.opened);
      pages = λ at past. untouched c.loop-number.pages number at c.replace-own.new.dest (later number past) ∙ c.loop-number.invariant.pages at (still_later number past);
      tables = λ at past. untouched c.loop-number.tables number at c.replace-table.new.dest (later number past) ∙ c.loop-number.invariant.tables at (still_later number past);
    }
