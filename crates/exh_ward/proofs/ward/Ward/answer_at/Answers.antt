use Rattle.std.proofs.Common.{◌++◌, ◌∷◌, [], ap, ◌∙◌, subst, refl, sym, ◌<◌, length, Some}
use Rattle.std.specs.Prelude.{Option}
use Rattle.std.proofs.lemmas.Option.{slice_get_within}
use Rattle.std.proofs.lemmas.Result.{IfOk-from_err}
use Rattle.exh_page.specs.Page.{records_of}
use Rattle.exh_page.specs.Search.{IsStood}
use Rattle.exh_page.specs.declared.spot.Spot.{Spot}
use Rattle.exh_legal.specs.Pages.{IsAt}
use Rattle.exh_ward.specs.HopTable.{HopOf}
use Rattle.exh_ward.specs.WardState.{WardState}
use Rattle.exh_ward.specs.declared.hop.Hop.TheVariants.{Done}
use Rattle.exh_calls.specs.declared.journal_entry.JournalEntry.{JournalEntry}
use Rattle.exh_ward.specs.declared.ward_fault.WardFault.TheVariants.{Memory}
use Rattle.exh_ward.specs.WardFault.{IsStoreFault, fault_of}
use Rattle.exh_ward.proofs.AnswersAreLeft.{few_pages, answers_here, spot_there, written_taken, stored, reply_there, replied, pages_are, hop_is_done, answered_seen}
use Rattle.exh_ward.proofs.StepsKeepSound.{kept_read, kept_answered}
use Rattle.exh_ward.proofs.Exits.{unchanged_written, on_err, memory_counted, live_there, store_fault, store_counted, same_failures}
use Rattle.exh_ward.proofs.HalvesOfPages.{failed_with}
use Rattle.exh_ward.proofs.SightsAreHops.{home_live}
use Rattle.exh_ward.proofs.ward.Ward.answer_at.Goals as goal

pub write-requires-clause-taken : goal.write-requires-clause-taken
write-requires-clause-taken g c =
    let pseudokey_of = g.K.Keyer.pseudokey_of in
    let fit = g.met.K.Keyer.pseudokey_fits c.self.inside.keyer in
    let answers = answers_here pseudokey_of c.self.view_is c.self.invariant c.args.at c.args.call.now c.args.pseudokey c.requires.answer.home c.requires.hashed c.requires.answer.seen in
    written_taken fit c.self.invariant answers _ _ c.key.ensures c.requires.answer.change_is (few_pages c.pages_are_few.ensures c.self.invariant)

pub write-requires-clause-stood : goal.write-requires-clause-stood
write-requires-clause-stood g c page is =
    let pseudokey_of = g.K.Keyer.pseudokey_of in
    let fit = g.met.K.Keyer.pseudokey_fits c.self.inside.keyer in
    let answers = answers_here pseudokey_of c.self.view_is c.self.invariant c.args.at c.args.call.now c.args.pseudokey c.requires.answer.home c.requires.hashed c.requires.answer.seen in
    let P : Option Spot → Type 0 = λ spot. IsStood (c.args.pseudokey, c.key.result.now) (records_of page) spot in
    subst P c.requires.answer.spot_is (spot_there fit c.self.invariant answers _ c.key.ensures page is)

pub invariant_of-self-in_err-write : goal.invariant_of-self-in_err-write
invariant_of-self-in_err-write g c = kept_read c.self.invariant _ c.write.ensures.takes _ _ _ c.in_err-write.ensures.err c.reserve.ensures.entries

pub returns-in_err-write-clause-sound : goal.returns-in_err-write-clause-sound
returns-in_err-write-clause-sound g c = (invariant_of-self-in_err-write g c).sound

pub invariant_of-self-2 : goal.invariant_of-self-2
invariant_of-self-2 g c =
    let pseudokey_of = g.K.Keyer.pseudokey_of in
    let fit = g.met.K.Keyer.pseudokey_fits c.self.inside.keyer in
    let answers = answers_here pseudokey_of c.self.view_is c.self.invariant c.args.at c.args.call.now c.args.pseudokey c.requires.answer.home c.requires.hashed c.requires.answer.seen in
    let is_reply = replied fit c.self.invariant answers c.args.reply.now (reply_there fit c.self.invariant answers c.args.reply.now c.requires.answer.reply_is) in
    let entry : JournalEntry = record { client = c.args.client; call = c.args.call.now; reply = c.args.reply.now } in
    let pushed = c.push_reserved.ensures ∙ ap (λ entries. entries ++ entry ∷ []) c.reserve.ensures.entries in
    kept_answered c.self.invariant _ c.write.ensures.takes fit answers.home c.args.client c.args.reply.now is_reply _ _ _
    (pages_are fit c.self.invariant answers _ (stored fit c.self.invariant answers _ _ c.key.ensures c.requires.answer.change_is _ c.in_ok-write.ensures.pages)) pushed

pub returns-clause-hop : goal.returns-clause-hop
returns-clause-hop g c =
    let pseudokey_of = g.K.Keyer.pseudokey_of in
    let fit = g.met.K.Keyer.pseudokey_fits c.self.inside.keyer in
    let answers = answers_here pseudokey_of c.self.view_is c.self.invariant c.args.at c.args.call.now c.args.pseudokey c.requires.answer.home c.requires.hashed c.requires.answer.seen in
    let is_reply = replied fit c.self.invariant answers c.args.reply.now (reply_there fit c.self.invariant answers c.args.reply.now c.requires.answer.reply_is) in
    let P : WardState g.row.K.Denot → Type 0 = λ w. HopOf w.cap (pseudokey_of w.keyer) w.pages c.args.at c.args.call.now (Done c.args.reply.now) in
    subst P c.self.view_is (hop_is_done fit c.self.invariant answers c.args.reply.now is_reply)

pub returns-clause-leaves : goal.returns-clause-leaves
returns-clause-leaves g c =
    let pseudokey_of = g.K.Keyer.pseudokey_of in
    let fit = g.met.K.Keyer.pseudokey_fits c.self.inside.keyer in
    let answers = answers_here pseudokey_of c.self.view_is c.self.invariant c.args.at c.args.call.now c.args.pseudokey c.requires.answer.home c.requires.hashed c.requires.answer.seen in
    let entry : JournalEntry = record { client = c.args.client; call = c.args.call.now; reply = c.args.reply.now } in
    let pushed = c.push_reserved.ensures ∙ ap (λ entries. entries ++ entry ∷ []) c.reserve.ensures.entries in
    answered_seen pseudokey_of c.self.view_is fit c.self.invariant answers c.args.client c.args.reply.now _ _ _ (stored fit c.self.invariant answers _ _ c.key.ensures c.requires.answer.change_is _ c.in_ok-write.ensures.pages) pushed c.in_ok-write.ensures.failures

pub returns-clause-sound : goal.returns-clause-sound
returns-clause-sound g c = (invariant_of-self-2 g c).sound

pub invariant_of-self : goal.invariant_of-self
invariant_of-self g c = kept_read c.self.invariant (g.P.Pages.takes c.self.inside.store) (λ page. (λ takes. takes, λ takes. takes)) _ _ _ refl c.reserve.ensures.entries

pub returns-in_err-reserve-clause-err : goal.returns-in_err-reserve-clause-err
returns-in_err-reserve-clause-err g c = on_err c.from_residual.result (unchanged_written c.self.view_is _ _ refl _ c.reserve.ensures.entries)

pub returns-in_err-reserve-clause-hop : goal.returns-in_err-reserve-clause-hop
returns-in_err-reserve-clause-hop g c = IfOk-from_err c.from_residual.result _ c.from_residual.ensures.0

pub returns-in_err-reserve-clause-leaves : goal.returns-in_err-reserve-clause-leaves
returns-in_err-reserve-clause-leaves g c = IfOk-from_err c.from_residual.result _ c.from_residual.ensures.0

pub returns-in_err-reserve-clause-fault : goal.returns-in_err-reserve-clause-fault
returns-in_err-reserve-clause-fault g c = failed_with c.from_residual.result Memory IsStoreFault c.from_residual.ensures.1 tt

pub returns-in_err-reserve-clause-failures : goal.returns-in_err-reserve-clause-failures
returns-in_err-reserve-clause-failures g c = memory_counted c.self.view_is c.from_residual.result (g.P.Pages.failures c.self.inside.store) refl c.from_residual.ensures.1

pub returns-in_err-reserve-clause-sound : goal.returns-in_err-reserve-clause-sound
returns-in_err-reserve-clause-sound g c = (invariant_of-self g c).sound

pub write-requires-clause-there : goal.write-requires-clause-there
write-requires-clause-there g c =
    let P : WardState g.row.K.Denot → Type 0 = λ w. c.args.at < length w.pages in
    let seen = c.requires.answer.seen in
    subst P (sym c.self.view_is) (slice_get_within c.args.self.now.pages c.args.at seen.0 seen.1)

pub write-requires-clause-live : goal.write-requires-clause-live
write-requires-clause-live g c page is =
    let seen = c.requires.answer.seen in
    let live = home_live seen.0 c.args.pseudokey seen.2.1 in
    let W : WardState g.row.K.Denot → Type 0 = λ w. IsAt w.pages c.args.at page in
    live_there c.args.self.now.pages c.args.at page live.0 live.1 live.2 (subst W c.self.view_is is) (seen.1 ∙ ap Some live.3)

pub returns-in_err-write-clause-err : goal.returns-in_err-write-clause-err
returns-in_err-write-clause-err g c = on_err c.from_residual-in_err-write.result (unchanged_written c.self.view_is _ _ c.in_err-write.ensures.err _ c.reserve.ensures.entries)

pub returns-in_err-write-clause-hop : goal.returns-in_err-write-clause-hop
returns-in_err-write-clause-hop g c = IfOk-from_err c.from_residual-in_err-write.result _ c.from_residual-in_err-write.ensures.0

pub returns-in_err-write-clause-leaves : goal.returns-in_err-write-clause-leaves
returns-in_err-write-clause-leaves g c = IfOk-from_err c.from_residual-in_err-write.result _ c.from_residual-in_err-write.ensures.0

pub returns-in_err-write-clause-fault : goal.returns-in_err-write-clause-fault
returns-in_err-write-clause-fault g c =
    let fault = c.in_err-write.field-0.0 in
    failed_with c.from_residual-in_err-write.result (fault_of fault) IsStoreFault c.from_residual-in_err-write.ensures.1 (store_fault fault)

pub returns-in_err-write-clause-failures : goal.returns-in_err-write-clause-failures
returns-in_err-write-clause-failures g c =
    store_counted c.self.view_is c.from_residual-in_err-write.result c.in_err-write.field-0.0 _ _ refl c.from_residual-in_err-write.ensures.1 c.in_err-write.ensures.failures

pub push_reserved-requires : goal.push_reserved-requires
push_reserved-requires g c = c.in_ok-reserve.ensures.ok

pub returns-clause-err : goal.returns-clause-err
returns-clause-err g c = tt

pub returns-clause-fault : goal.returns-clause-fault
returns-clause-fault g c = tt

pub returns-clause-failures : goal.returns-clause-failures
returns-clause-failures g c = same_failures c.self.view_is _ c.in_ok-write.ensures.failures
