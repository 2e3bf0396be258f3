use Rattle.std.proofs.Common.{◌≡◌, ◌+◌, IsSome, refl, sym, ap, ◌∙◌, subst}
use Rattle.std.specs.Prelude.{slice_set}
use Rattle.std.specs.FinMap as fin
use Rattle.std.proofs.lemmas.List.{length-set}
use Rattle.std.proofs.lemmas.Option.{slice_get_within}
use Rattle.std.proofs.lemmas.Result.{IfOk-from_err}
use Rattle.exh_notice.specs.declared.notice.Notice.{Notice}
use Rattle.exh_legal.specs.Table.{TableMap, entry_number}
use Rattle.exh_legal.specs.ChangeNumbers.{index_of, next_notice}
use Rattle.exh_legal.specs.Pages.{IsAt}
use Rattle.exh_ward.specs.Told.{FitChange, page_changed, pages_changed, twin_changed}
use Rattle.exh_ward.specs.WardState.{WardState}
use Rattle.exh_ward.specs.WardFault.{IsTellingFault}
use Rattle.exh_ward.proofs.ChangesAreTold.{both_are, kept_told, kept_undone, index_kept, may_change, raised_back, stands, unchanged_seen, notice_made, told_more, told_seen, state_of}
use Rattle.exh_ward.proofs.Exits.{taking_counted, taking_tells, storing_tells, made_counted, same_failures, told_here, on_err}
use Rattle.exh_ward.proofs.HalvesOfPages.{failed_with}
use Rattle.exh_ward.proofs.ward.Ward.change_two.Goals as goal

pub put_back-requires : goal.put_back-requires
put_back-requires g c =
    let P : TableMap → Type 0 = λ t. IsSome (fin.get t c.args.prefix) in
    subst P (sym c.in_ok-stood.ensures.ok) (stands c.self.inside.table (next_notice 0 c.self.inside.table c.args.prefix c.args.kind))

pub invariant_of-self-in-Err : goal.invariant_of-self-in-Err
invariant_of-self-in-Err g c =
    kept_undone c.self.invariant (g.P.Pages.takes c.write.new.store) c.write.ensures.takes (g.P.Pages.pages c.write.new.store) c.take.new.notices.items c.put_back.new.self (g.P.Pages.failures c.write.new.store) c.self.inside.index c.in-Err.ensures.err c.take.ensures.items
    (raised_back c.self.inside.table c.take.new.table c.put_back.new.self c.args.prefix c.args.kind c.in_ok-stood.stood c.in_ok-stood.ensures.stood c.in_ok-stood.ensures.ok c.put_back.ensures) refl

pub returns-in-Err-clause-err : goal.returns-in-Err-clause-err
returns-in-Err-clause-err g c =
    unchanged_seen c.self.view_is (g.P.Pages.pages c.write.new.store) c.take.new.notices.items c.put_back.new.self (g.P.Pages.failures c.write.new.store) c.in-Err.ensures.err c.take.ensures.items
    (raised_back c.self.inside.table c.take.new.table c.put_back.new.self c.args.prefix c.args.kind c.in_ok-stood.stood c.in_ok-stood.ensures.stood c.in_ok-stood.ensures.ok c.put_back.ensures)

pub returns-in-Err-clause-sound : goal.returns-in-Err-clause-sound
returns-in-Err-clause-sound g c = (invariant_of-self-in-Err g c).sound

pub invariant_of-self-2 : goal.invariant_of-self-2
invariant_of-self-2 g c =
    let pages = g.P.Pages.pages c.self.inside.store in
    let may = may_change g.K.Keyer.pseudokey_of c.self.view_is c.requires in
    let new = pages_changed c.args.kind c.args.prefix c.args.number c.args.other may.page may.twin pages in
    let same = length-set (slice_set pages c.args.number (page_changed c.args.kind c.args.prefix may.page may.twin)) c.args.other (twin_changed c.args.kind c.args.number may.page may.twin) ∙ length-set pages c.args.number (page_changed c.args.kind c.args.prefix may.page may.twin) in
    let notice = next_notice c.self.inside.number c.self.inside.table c.args.prefix c.args.kind in
    let I : WardState g.row.K.Denot → Type 0 = λ w. c.next_index-index.result ≡ index_of w.table + 1 in
    let index_is = subst I (sym c.self.view_is) c.next_index-index.ensures in
    let made = notice_made c.self.inside.number c.self.inside.table c.args.prefix c.args.kind c.in_ok-stood.stood c.in_ok-stood.ensures.stood c.next_index-index.result index_is c.notice_after.result c.notice_after.ensures in
    kept_told c.self.invariant (g.P.Pages.takes c.write.new.store) c.write.ensures.takes notice new refl may.changed (g.P.Pages.pages c.write.new.store) c.push_reserved.new.self.items c.take.new.table (g.P.Pages.failures c.write.new.store) c.self.inside.index
    (index_kept c.self.inside.index pages new c.self.invariant.indexed may.changed.places same) (c.in_default.ensures.ok may.page may.there may.twin may.twin_there) (told_more c.self.inside.notices.items c.take.new.notices.items c.push_reserved.new.self.items c.notice_after.result notice c.push_reserved.ensures.items made c.take.ensures.items) c.in_ok-stood.ensures.ok

pub returns-clause-sound : goal.returns-clause-sound
returns-clause-sound g c = (invariant_of-self-2 g c).sound

pub invariant_of-self : goal.invariant_of-self
invariant_of-self g c =
    kept_undone c.self.invariant (g.P.Pages.takes c.self.inside.store) (λ page. (λ takes. takes, λ takes. takes)) (g.P.Pages.pages c.self.inside.store) c.take.new.notices.items c.take.new.table (g.P.Pages.failures c.self.inside.store) c.self.inside.index refl c.take.ensures.items c.in_err-stood.ensures.err refl

pub returns-in_err-stood-clause-notice : goal.returns-in_err-stood-clause-notice
returns-in_err-stood-clause-notice g c = IfOk-from_err c.from_residual.result _ c.from_residual.ensures.0

pub returns-in_err-stood-clause-ok : goal.returns-in_err-stood-clause-ok
returns-in_err-stood-clause-ok g c = IfOk-from_err c.from_residual.result _ c.from_residual.ensures.0

pub returns-in_err-stood-clause-err : goal.returns-in_err-stood-clause-err
returns-in_err-stood-clause-err g c = on_err c.from_residual.result (unchanged_seen c.self.view_is (g.P.Pages.pages c.self.inside.store) c.take.new.notices.items c.take.new.table (g.P.Pages.failures c.self.inside.store) refl c.take.ensures.items c.in_err-stood.ensures.err)

pub returns-in_err-stood-clause-fault : goal.returns-in_err-stood-clause-fault
returns-in_err-stood-clause-fault g c =
    let P : WardState g.row.K.Denot → Type 0 = λ w. IsTellingFault w c.args.prefix c.in_err-stood.field-0.0 in
    failed_with c.from_residual.result c.in_err-stood.field-0.0 (IsTellingFault c.args.self.now c.args.prefix) c.from_residual.ensures.1 (subst P c.self.view_is (taking_tells (state_of c.self.view_is) c.args.prefix c.in_err-stood.field-0.0 c.in_err-stood.ensures.fault))

pub returns-in_err-stood-clause-failures : goal.returns-in_err-stood-clause-failures
returns-in_err-stood-clause-failures g c =
    taking_counted c.self.view_is c.from_residual.result c.self.inside.table c.args.prefix c.in_err-stood.field-0.0 (g.P.Pages.failures c.self.inside.store) refl c.from_residual.ensures.1 c.in_err-stood.ensures.fault

pub returns-in_err-stood-clause-sound : goal.returns-in_err-stood-clause-sound
returns-in_err-stood-clause-sound g c = (invariant_of-self g c).sound

pub write-requires-clause-there : goal.write-requires-clause-there
write-requires-clause-there g c = let may = may_change g.K.Keyer.pseudokey_of c.self.view_is c.requires in slice_get_within _ c.args.number may.page may.there

pub write-requires-clause-other_there : goal.write-requires-clause-other_there
write-requires-clause-other_there g c = let may = may_change g.K.Keyer.pseudokey_of c.self.view_is c.requires in slice_get_within _ c.args.other may.twin may.twin_there

pub write-requires-clause-apart : goal.write-requires-clause-apart
write-requires-clause-apart g c = c.requires.apart

pub write-requires-clause-fit : goal.write-requires-clause-fit
write-requires-clause-fit g c =
    let may = may_change g.K.Keyer.pseudokey_of c.self.view_is c.requires in
    both_are _ c.args.number c.args.other may.page may.twin (FitChange c.args.kind c.args.other) may.there may.twin_there may.fit

pub write-requires-clause-taken : goal.write-requires-clause-taken
write-requires-clause-taken g c =
    let may = may_change g.K.Keyer.pseudokey_of c.self.view_is c.requires in
    both_are _ c.args.number c.args.other may.page may.twin (λ page twin. g.P.Pages.takes c.self.inside.store (page_changed c.args.kind c.args.prefix page twin)) may.there may.twin_there (c.self.invariant.takes_all _ may.formed)

pub write-requires-clause-twin_taken : goal.write-requires-clause-twin_taken
write-requires-clause-twin_taken g c =
    let may = may_change g.K.Keyer.pseudokey_of c.self.view_is c.requires in
    both_are _ c.args.number c.args.other may.page may.twin (λ page twin. g.P.Pages.takes c.self.inside.store (twin_changed c.args.kind c.args.number page twin)) may.there may.twin_there (c.self.invariant.takes_all _ may.twin_formed)

pub returns-in-Err-clause-notice : goal.returns-in-Err-clause-notice
returns-in-Err-clause-notice g c = tt

pub returns-in-Err-clause-ok : goal.returns-in-Err-clause-ok
returns-in-Err-clause-ok g c = tt

pub returns-in-Err-clause-fault : goal.returns-in-Err-clause-fault
returns-in-Err-clause-fault g c =
    let P = IsTellingFault c.args.self.now c.args.prefix in
    subst P (sym c.into.ensures) (storing_tells c.args.self.now c.args.prefix c.in-Err.fault)

pub returns-in-Err-clause-failures : goal.returns-in-Err-clause-failures
returns-in-Err-clause-failures g c = made_counted c.self.view_is Notice c.into.result c.in-Err.fault (g.P.Pages.failures c.write.new.store) c.into.ensures c.in-Err.ensures.failures

pub notice_after-requires : goal.notice_after-requires
notice_after-requires g c = λ most. c.in_ok-stood.ensures.more (sym (ap entry_number c.in_ok-stood.ensures.stood) ∙ most)

pub push_reserved-requires : goal.push_reserved-requires
push_reserved-requires g c = c.in_ok-stood.ensures.room

pub returns-clause-notice : goal.returns-clause-notice
returns-clause-notice g c =
    let I : WardState g.row.K.Denot → Type 0 = λ w. c.next_index-index.result ≡ index_of w.table + 1 in
    let index_is = subst I (sym c.self.view_is) c.next_index-index.ensures in
    let made = notice_made c.self.inside.number c.self.inside.table c.args.prefix c.args.kind c.in_ok-stood.stood c.in_ok-stood.ensures.stood c.next_index-index.result index_is c.notice_after.result c.notice_after.ensures in
    made ∙ ap (λ (w : WardState g.row.K.Denot). next_notice w.number w.table c.args.prefix c.args.kind) c.self.view_is

pub returns-clause-ok : goal.returns-clause-ok
returns-clause-ok g c page is twin twin_is =
    let I : WardState g.row.K.Denot → Type 0 = λ w. c.next_index-index.result ≡ index_of w.table + 1 in
    let index_is = subst I (sym c.self.view_is) c.next_index-index.ensures in
    let made = notice_made c.self.inside.number c.self.inside.table c.args.prefix c.args.kind c.in_ok-stood.stood c.in_ok-stood.ensures.stood c.next_index-index.result index_is c.notice_after.result c.notice_after.ensures in
    let notice = next_notice c.self.inside.number c.self.inside.table c.args.prefix c.args.kind in
    let A : WardState g.row.K.Denot → Type 0 = λ w. IsAt w.pages c.args.number page in
    let B : WardState g.row.K.Denot → Type 0 = λ w. IsAt w.pages c.args.other twin in
    let new = pages_changed c.args.kind c.args.prefix c.args.number c.args.other page twin (g.P.Pages.pages c.self.inside.store) in
    told_here c.self.view_is c.args.prefix c.args.kind c.args.number (page_changed c.args.kind c.args.prefix page twin) c.args.other (twin_changed c.args.kind c.args.number page twin) _
    (told_seen (state_of c.self.view_is) notice new (g.P.Pages.pages c.write.new.store) c.push_reserved.new.self.items c.take.new.table (g.P.Pages.failures c.write.new.store) (c.in_default.ensures.ok page (subst A (sym c.self.view_is) is) twin (subst B (sym c.self.view_is) twin_is))
    (told_more c.self.inside.notices.items c.take.new.notices.items c.push_reserved.new.self.items c.notice_after.result notice c.push_reserved.ensures.items made c.take.ensures.items) c.in_ok-stood.ensures.ok c.in_default.ensures.failures)

pub returns-clause-err : goal.returns-clause-err
returns-clause-err g c = tt

pub returns-clause-fault : goal.returns-clause-fault
returns-clause-fault g c = tt

pub returns-clause-failures : goal.returns-clause-failures
returns-clause-failures g c = same_failures c.self.view_is (g.P.Pages.failures c.write.new.store) c.in_default.ensures.failures
