use Rattle.std.proofs.Common.{sym, ap, ◌∙◌, subst, List}
use Rattle.std.specs.Prelude.{slice_set, Option}
use Rattle.exh_page.specs.Page.{records_of, with_records}
use Rattle.exh_page.specs.Search.{IsStood}
use Rattle.exh_page.specs.SearchLemmas.{remove_found}
use Rattle.exh_page.specs.Values.{without_place-absent}
use Rattle.exh_page.specs.declared.record.Record.{Record}
use Rattle.exh_page.specs.declared.spot.Spot.{Spot}
use Rattle.exh_calls.specs.Effect.{change_of}
use Rattle.exh_calls.specs.declared.key_change.KeyChange.{KeyChange}
use Rattle.exh_ward.specs.PageAnswer.{records_changed}
use Rattle.exh_ward.proofs.StoredPages.{records_kept}
use Rattle.exh_ward.proofs.ward.hop.answer.write.Goals as goal

pub returns-in-Keep-clause-pages : goal.returns-in-Keep-clause-pages
returns-in-Keep-clause-pages g c page is =
    sym (records_kept _ _ page is)
    ∙ ap (λ (change : KeyChange). slice_set (g.P.Pages.pages c.args.store.now) c.args.at (with_records (records_changed (change_of change) c.args.pseudokey c.args.key.now (records_of page)) page)) (sym c.in-Keep.is)

pub put_at-requires-clause-taken : goal.put_at-requires-clause-taken
put_at-requires-clause-taken g c page is =
    let T : KeyChange → Type 0 = λ change. g.P.Pages.takes c.args.store.now (with_records (records_changed (change_of change) c.args.pseudokey c.args.key.now (records_of page)) page) in
    subst T c.in-Set.is (c.requires.taken page is)

pub returns-in_ok-put_at-in-Set-clause-pages : goal.returns-in_ok-put_at-in-Set-clause-pages
returns-in_ok-put_at-in-Set-clause-pages g c page is =
    c.in_ok-put_at-in-Set.ensures.ok page is
    ∙ ap (λ (change : KeyChange). slice_set (g.P.Pages.pages c.args.store.now) c.args.at (with_records (records_changed (change_of change) c.args.pseudokey c.args.key.now (records_of page)) page)) (sym c.in-Set.is)

pub remove_at-requires-clause-taken : goal.remove_at-requires-clause-taken
remove_at-requires-clause-taken g c page is =
    let stood = subst (λ (spot : Option Spot). IsStood (c.args.pseudokey, c.args.key.now) (records_of page) spot) c.in-Some.is (c.requires.stood page is) in
    let T : KeyChange → Type 0 = λ change. g.P.Pages.takes c.args.store.now (with_records (records_changed (change_of change) c.args.pseudokey c.args.key.now (records_of page)) page) in
    let S : List Record → Type 0 = λ records. g.P.Pages.takes c.args.store.now (with_records records page) in
    subst S (sym (remove_found stood.1)) (subst T c.in-Remove.is (c.requires.taken page is))

pub returns-in_ok-remove_at-in-Some-clause-pages : goal.returns-in_ok-remove_at-in-Some-clause-pages
returns-in_ok-remove_at-in-Some-clause-pages g c page is =
    let stood = subst (λ (spot : Option Spot). IsStood (c.args.pseudokey, c.args.key.now) (records_of page) spot) c.in-Some.is (c.requires.stood page is) in
    c.in_ok-remove_at-in-Some.ensures.ok page is
    ∙ ap (λ (records : List Record). slice_set (g.P.Pages.pages c.args.store.now) c.args.at (with_records records page)) (remove_found stood.1)
    ∙ ap (λ (change : KeyChange). slice_set (g.P.Pages.pages c.args.store.now) c.args.at (with_records (records_changed (change_of change) c.args.pseudokey c.args.key.now (records_of page)) page)) (sym c.in-Remove.is)

pub returns-in-None-clause-pages : goal.returns-in-None-clause-pages
returns-in-None-clause-pages g c page is =
    let stood = subst (λ (spot : Option Spot). IsStood (c.args.pseudokey, c.args.key.now) (records_of page) spot) c.in-None.is (c.requires.stood page is) in
    sym (records_kept _ _ page is)
    ∙ ap (λ (records : List Record). slice_set (g.P.Pages.pages c.args.store.now) c.args.at (with_records records page)) (sym (without_place-absent _ _ stood))
    ∙ ap (λ (change : KeyChange). slice_set (g.P.Pages.pages c.args.store.now) c.args.at (with_records (records_changed (change_of change) c.args.pseudokey c.args.key.now (records_of page)) page)) (sym c.in-Remove.is)
