use Rattle.std.proofs.Common.{ap, ◌∙◌, ◌≡◌, ◌<◌, ℕ, List, [], Err, subst}
use Rattle.std.proofs.lemmas.Result.{IfOk-from_err}
use Rattle.exh_prefix.specs.Leading.{ward_prefix}
use Rattle.exh_notice.specs.declared.notice.Notice.{Notice}
use Rattle.exh_legal.specs.Table.{TableMap}
use Rattle.exh_page.specs.declared.page.Page.{Page as PageType}
use Rattle.exh_page.specs.KeyMap.{KeyMap}
use Rattle.exh_legal.specs.Pages.{map_of}
use Rattle.exh_calls.specs.declared.journal_entry.JournalEntry.{JournalEntry}
use Rattle.exh_ward.specs.WardState.{WardState}
use Rattle.exh_ward.specs.WardFault.{CountsFailures, IsStoreFault}
use Rattle.exh_ward.specs.declared.ward_fault.WardFault.{WardFault}
use Rattle.exh_ward.specs.declared.ward_fault.WardFault.TheVariants.{Memory, Page}
use Rattle.exh_ward.proofs.MadeOfPages.{apart_from, few_entries, kept_made}
use Rattle.exh_ward.proofs.HalvesOfPages.{failed_with}
use Rattle.exh_ward.proofs.ward.Ward.from_pages.Goals as goal

memory_apart : {A : Type 0} → Memory ≡ Page → A
memory_apart same = let no : ⊥ = cc in absurd no

-- the ward that is made, as it is seen
made_seen : {K : Type 0} (pages given : List PageType) (base : KeyMap) (journal : List JournalEntry) (start table : TableMap) (notices : List Notice) (failures before cap ward_bits number : ℕ) (keyer : K)
    → pages ≡ given → base ≡ map_of given → journal ≡ [] → start ≡ table → notices ≡ [] → failures ≡ before
    → (let w : WardState K = record { pages = pages; base = base; journal = journal; start = start; notices = notices; table = table; failures = failures; cap = cap; ward_bits = ward_bits; number = number; keyer = keyer } in w)
    ≡ record { pages = given; base = map_of given; journal = []; start = table; notices = []; table = table; failures = before; cap = cap; ward_bits = ward_bits; number = number; keyer = keyer }
made_seen pages given base journal start table notices failures before cap ward_bits number keyer is_pages is_base is_journal is_start is_notices is_failures = cc

pub returns-clause-ward : goal.returns-clause-ward
returns-clause-ward g c =
    let indexed = c.in_ok-index.ensures in
    let read = c.in_ok-base.ensures in
    made_seen (g.P.Pages.pages c.read_base.new.store) (g.P.Pages.pages c.args.pages) c.in_ok-base.base c.new.result.entries c.in_ok-start.start c.args.table c.new-2.result.items (g.P.Pages.failures c.read_base.new.store) (g.P.Pages.failures c.args.pages)
    c.args.cap c.args.ward_bits c.args.number c.args.keyer
    (read.pages ∙ indexed.pages) (read.base ∙ ap map_of indexed.pages) c.new.ensures c.in_ok-start.ensures c.new-2.ensures.items (read.failures ∙ indexed.failures)

pub read_index-requires : goal.read_index-requires
read_index-requires g c = record { apart = apart_from (ward_prefix c.args.ward_bits c.args.number) _ c.requires.legal.legal.legal.linked }

pub index_of-requires : goal.index_of-requires
index_of-requires g c = few_entries c.entries_are_few.ensures c.args.ward_bits c.args.number c.requires.bits _ c.requires.legal

pub invariant_of-result : goal.invariant_of-result
invariant_of-result g c =
    let indexed = c.in_ok-index.ensures in
    let read = c.in_ok-base.ensures in
    kept_made c.args.cap c.args.ward_bits c.args.number _ c.args.keyer (g.P.Pages.pages c.args.pages) c.args.table c.own_entries_give_the_table.ensures c.requires.legal
    (λ page formed. (read.takes page).0 ((indexed.takes page).0 (c.requires.takes page formed))) c.requires.bits c.requires.some c.requires.most
    indexed.index c.index_of.ensures.index c.index_of.ensures.few
    (read.pages ∙ indexed.pages) (read.base ∙ ap map_of indexed.pages) c.new.ensures c.in_ok-start.ensures c.new-2.ensures.items c.own_prefix.ensures

pub returns-clause-sound : goal.returns-clause-sound
returns-clause-sound g c = (invariant_of-result g c).sound

pub returns-in_err-index-clause-ward : goal.returns-in_err-index-clause-ward
returns-in_err-index-clause-ward g c = IfOk-from_err c.from_residual.result _ c.from_residual.ensures.0

pub returns-in_err-index-clause-sound : goal.returns-in_err-index-clause-sound
returns-in_err-index-clause-sound g c = IfOk-from_err c.from_residual.result _ c.from_residual.ensures.0

pub returns-in_err-index-clause-fault : goal.returns-in_err-index-clause-fault
returns-in_err-index-clause-fault g c = failed_with c.from_residual.result c.in_err-index.field-0.0 IsStoreFault c.from_residual.ensures.1 c.in_err-index.ensures.fault

pub returns-in_err-index-clause-page_fault : goal.returns-in_err-index-clause-page_fault
returns-in_err-index-clause-page_fault g c =
    let Q : WardFault → Type 0 = λ fault. fault ≡ Page → (left : g.row.P.Denot) × (g.P.Pages.failures c.args.pages < g.P.Pages.failures left) in
    let P : WardFault → Type 0 = λ fault. CountsFailures {T = Unit {0}} (Err fault) (g.P.Pages.failures c.args.pages) (g.P.Pages.failures c.read_index.new.store) in
    failed_with c.from_residual.result c.in_err-index.field-0.0 Q c.from_residual.ensures.1 (λ is_page. (c.read_index.new.store, subst P is_page c.in_err-index.ensures.failures))

pub returns-in_err-base-clause-ward : goal.returns-in_err-base-clause-ward
returns-in_err-base-clause-ward g c = IfOk-from_err c.from_residual-in_err-base.result _ c.from_residual-in_err-base.ensures.0

pub returns-in_err-base-clause-sound : goal.returns-in_err-base-clause-sound
returns-in_err-base-clause-sound g c = IfOk-from_err c.from_residual-in_err-base.result _ c.from_residual-in_err-base.ensures.0

pub returns-in_err-base-clause-fault : goal.returns-in_err-base-clause-fault
returns-in_err-base-clause-fault g c = failed_with c.from_residual-in_err-base.result c.in_err-base.field-0.0 IsStoreFault c.from_residual-in_err-base.ensures.1 c.in_err-base.ensures.fault

pub returns-in_err-base-clause-page_fault : goal.returns-in_err-base-clause-page_fault
returns-in_err-base-clause-page_fault g c =
    let Q : WardFault → Type 0 = λ fault. fault ≡ Page → (left : g.row.P.Denot) × (g.P.Pages.failures c.args.pages < g.P.Pages.failures left) in
    let P : WardFault → Type 0 = λ fault. CountsFailures {T = Unit {0}} (Err fault) (g.P.Pages.failures c.read_index.new.store) (g.P.Pages.failures c.read_base.new.store) in
    let R : ℕ → Type 0 = λ before. before < g.P.Pages.failures c.read_base.new.store in
    failed_with c.from_residual-in_err-base.result c.in_err-base.field-0.0 Q c.from_residual-in_err-base.ensures.1 (λ is_page. (c.read_base.new.store, subst R c.in_ok-index.ensures.failures (subst P is_page c.in_err-base.ensures.failures)))

pub returns-in_err-start-clause-ward : goal.returns-in_err-start-clause-ward
returns-in_err-start-clause-ward g c = IfOk-from_err c.from_residual-in_err-start.result _ c.from_residual-in_err-start.ensures.0

pub returns-in_err-start-clause-sound : goal.returns-in_err-start-clause-sound
returns-in_err-start-clause-sound g c = IfOk-from_err c.from_residual-in_err-start.result _ c.from_residual-in_err-start.ensures.0

pub returns-in_err-start-clause-fault : goal.returns-in_err-start-clause-fault
returns-in_err-start-clause-fault g c = failed_with c.from_residual-in_err-start.result Memory IsStoreFault c.from_residual-in_err-start.ensures.1 tt

pub returns-in_err-start-clause-page_fault : goal.returns-in_err-start-clause-page_fault
returns-in_err-start-clause-page_fault g c =
    let Q : WardFault → Type 0 = λ fault. fault ≡ Page → (left : g.row.P.Denot) × (g.P.Pages.failures c.args.pages < g.P.Pages.failures left) in
    failed_with c.from_residual-in_err-start.result Memory Q c.from_residual-in_err-start.ensures.1 memory_apart

pub own_prefix-requires-clause-bits : goal.own_prefix-requires-clause-bits
own_prefix-requires-clause-bits g c = c.requires.bits

pub own_prefix-requires-clause-number : goal.own_prefix-requires-clause-number
own_prefix-requires-clause-number g c = c.requires.number

pub returns-clause-fault : goal.returns-clause-fault
returns-clause-fault g c = tt

pub returns-clause-page_fault : goal.returns-clause-page_fault
returns-clause-page_fault g c = tt
