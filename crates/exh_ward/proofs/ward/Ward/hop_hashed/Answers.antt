use Rattle.std.proofs.Common.{◌≡◌, ℕ, List, refl, subst, arith, ◌∙◌, ◌<◌, sym}
use Rattle.std.proofs.lemmas.Option.{slice_get_within}
use Rattle.std.proofs.lemmas.Result.{IfOk-from_err}
use Rattle.exh_page.specs.declared.page.Page.{Page}
use Rattle.exh_page.specs.Lookup.{HasPseudokey}
use Rattle.exh_calls.specs.declared.call.Call.{Call}
use Rattle.exh_calls.specs.declared.reply.Reply.{Reply}
use Rattle.exh_calls.specs.Call.{key_of}
use Rattle.exh_ward.specs.HopTable.{HopOf}
use Rattle.exh_ward.specs.Sight.{SightIn}
use Rattle.exh_ward.specs.WardState.{WardState, IsAnswered, IsSoundWard}
use Rattle.exh_ward.specs.declared.hop.Hop.TheVariants.{Done}
use Rattle.exh_ward.specs.declared.ward.hop.sight.Sight.TheVariants.{Overflows, Beyond, Leads}
use Rattle.exh_ward.specs.WardFault.{fault_of, IsStoreFault}
use Rattle.exh_ward.proofs.SightsAreHops.{hop_waits, sight_found, sight_in, no_dead_end}
use Rattle.exh_ward.proofs.StepsKeepSound.{at_read, hashed_at, kept_read}
use Rattle.exh_ward.proofs.Exits.{is_past, on_err, unchanged_read, store_fault, store_counted, same_read, same_failures, counted_from}
use Rattle.exh_ward.proofs.HalvesOfPages.{failed_with}
use Rattle.exh_ward.proofs.ward.Ward.hop_hashed.Goals as goal

-- ---- the store is as it was after a page was fetched

pub invariant_of-self : goal.invariant_of-self
invariant_of-self g c = kept_read c.self.invariant (g.P.Pages.takes c.reach.new.self) c.reach.ensures.takes (g.P.Pages.pages c.reach.new.self) c.self.inside.journal.entries (g.P.Pages.failures c.reach.new.self) c.reach.ensures.pages refl

pub returns-in_err-reach-clause-sound : goal.returns-in_err-reach-clause-sound
returns-in_err-reach-clause-sound g c = (invariant_of-self g c).sound

pub invariant_of-self-in-Beyond : goal.invariant_of-self-in-Beyond
invariant_of-self-in-Beyond g c = kept_read c.self.invariant (g.P.Pages.takes c.reach.new.self) c.reach.ensures.takes (g.P.Pages.pages c.reach.new.self) c.self.inside.journal.entries (g.P.Pages.failures c.reach.new.self) c.reach.ensures.pages refl

pub invariant_of-self-in-Leads : goal.invariant_of-self-in-Leads
invariant_of-self-in-Leads g c = kept_read c.self.invariant (g.P.Pages.takes c.reach.new.self) c.reach.ensures.takes (g.P.Pages.pages c.reach.new.self) c.self.inside.journal.entries (g.P.Pages.failures c.reach.new.self) c.reach.ensures.pages refl

pub invariant_of-self-in-Overflows : goal.invariant_of-self-in-Overflows
invariant_of-self-in-Overflows g c = kept_read c.self.invariant (g.P.Pages.takes c.reach.new.self) c.reach.ensures.takes (g.P.Pages.pages c.reach.new.self) c.self.inside.journal.entries (g.P.Pages.failures c.reach.new.self) c.reach.ensures.pages refl

pub invariant_of-self-2 : goal.invariant_of-self-2
invariant_of-self-2 g c = kept_read c.self.invariant (g.P.Pages.takes c.reach.new.self) c.reach.ensures.takes (g.P.Pages.pages c.reach.new.self) c.self.inside.journal.entries (g.P.Pages.failures c.reach.new.self) c.reach.ensures.pages refl

pub returns-in-Overflows-clause-hop : goal.returns-in-Overflows-clause-hop
returns-in-Overflows-clause-hop g c =
    let pseudokey_of = g.K.Keyer.pseudokey_of in
    let P : WardState g.row.K.Denot → Type 0 = λ w. IsSoundWard pseudokey_of w in
    let sound = subst P c.self.view_is c.self.invariant.sound in
    let seen : SightIn c.self.inside.cap c.args.pseudokey (g.P.Pages.pages c.self.inside.store) c.args.at c.args.call.now c.of.result =
    sight_in c.self.inside.cap c.args.pseudokey (g.P.Pages.pages c.self.inside.store) c.args.at c.args.call.now c.of.result c.find-found.ensures.0 (at_read _ _ _ _ c.reach.ensures.pages c.find-found.ensures.1) (sight_found c.self.inside.cap c.args.pseudokey c.args.call.now c.of.result c.find-found.result c.key.result.now c.find-found.ensures.0 c.key.ensures c.find-found.ensures.2 c.of.ensures) in
    let Q : WardState g.row.K.Denot → Type 0 = λ w. SightIn w.cap c.args.pseudokey w.pages c.args.at c.args.call.now c.of.result in
    let sight = subst (SightIn c.args.self.now.cap c.args.pseudokey c.args.self.now.pages c.args.at c.args.call.now) c.in-Overflows.is (subst Q c.self.view_is seen) in
    let S : ℕ → Type 0 = λ k. SightIn c.args.self.now.cap k c.args.self.now.pages c.args.at c.args.call.now Overflows in
    hop_waits sound.legal.legal.legal c.args.at c.args.call.now (subst S c.requires.hashed sight)

pub returns-clause-hop : goal.returns-clause-hop
returns-clause-hop g c =
    let pseudokey_of = g.K.Keyer.pseudokey_of in
    let R : List Page → Type 0 = λ pages. HopOf c.self.inside.cap (pseudokey_of c.self.inside.keyer) pages c.args.at c.args.call.now (Done c.reply-reply.result) in
    let P : WardState g.row.K.Denot → Type 0 = λ w. HopOf w.cap (pseudokey_of w.keyer) w.pages c.args.at c.args.call.now (Done c.reply-reply.result) in
    subst P c.self.view_is (subst R c.reach.ensures.pages c.in_ok-answer_at.ensures.hop)

-- what an answer leaves of the ward whose page was fetched, it leaves of the ward before
left_of_read : {K : Type 0} (pseudokey_of : K → List ℕ → ℕ) {w now : WardState K} → w ≡ now → (pages : List Page) (failures : ℕ) → pages ≡ w.pages → failures ≡ w.failures → (at client : ℕ) (call : Call) (reply : Reply) (new : WardState K)
    → (let read : WardState K = record w { pages = pages; failures = failures } in IsAnswered pseudokey_of read at client call reply new) → IsAnswered pseudokey_of now at client call reply new
left_of_read {K = K} pseudokey_of {w = w} seen pages failures same_pages same_failures at client call reply new left =
    let IsLeft : WardState K → Type 0 = λ old. IsAnswered pseudokey_of old at client call reply new in
    let R : List Page → Type 0 = λ pages. IsLeft (record w { pages = pages; failures = failures }) in
    let Q : ℕ → Type 0 = λ failures. IsLeft (record w { failures = failures }) in
    subst IsLeft seen (subst Q same_failures (subst R same_pages left))

pub returns-clause-leaves : goal.returns-clause-leaves
returns-clause-leaves g c =
    left_of_read g.K.Keyer.pseudokey_of c.self.view_is _ _ c.reach.ensures.pages c.in_ok-reach.ensures.failures c.args.at c.args.client c.args.call.now c.reply-reply.result c.answer_at.new.self c.in_ok-answer_at.ensures.leaves

pub returns-then-at-count-clause-err : goal.returns-then-at-count-clause-err
returns-then-at-count-clause-err g c = tt

pub returns-then-at-count-clause-fault : goal.returns-then-at-count-clause-fault
returns-then-at-count-clause-fault g c = tt

pub returns-then-at-count-clause-leaves : goal.returns-then-at-count-clause-leaves
returns-then-at-count-clause-leaves g c = refl

pub returns-then-at-count-clause-failures : goal.returns-then-at-count-clause-failures
returns-then-at-count-clause-failures g c = refl

pub returns-then-at-count-clause-sound : goal.returns-then-at-count-clause-sound
returns-then-at-count-clause-sound g c =
    let P : WardState g.row.K.Denot → Type 0 = λ w. IsSoundWard g.K.Keyer.pseudokey_of w in
    subst P c.self.view_is c.self.invariant.sound

pub returns-then-at-count-clause-hop : goal.returns-then-at-count-clause-hop
returns-then-at-count-clause-hop g c =
    let past = is_past c.self.view_is c.count.ensures c.if-at-count.true in
    λ page reached. omega (arith, past, slice_get_within c.args.self.now.pages c.args.at page reached.there)

pub reach-requires : goal.reach-requires
reach-requires g c = subst (λ n. c.args.at < n) c.count.ensures c.if-at-count.false

pub returns-in_err-reach-clause-hop : goal.returns-in_err-reach-clause-hop
returns-in_err-reach-clause-hop g c = IfOk-from_err c.from_residual.result _ c.from_residual.ensures.0

pub returns-in_err-reach-clause-leaves : goal.returns-in_err-reach-clause-leaves
returns-in_err-reach-clause-leaves g c = IfOk-from_err c.from_residual.result _ c.from_residual.ensures.0

pub returns-in_err-reach-clause-err : goal.returns-in_err-reach-clause-err
returns-in_err-reach-clause-err g c = on_err c.from_residual.result (unchanged_read c.self.view_is (g.P.Pages.pages c.reach.new.self) (g.P.Pages.failures c.reach.new.self) c.reach.ensures.pages)

pub returns-in_err-reach-clause-fault : goal.returns-in_err-reach-clause-fault
returns-in_err-reach-clause-fault g c = failed_with c.from_residual.result (fault_of c.in_err-reach.field-0.0) IsStoreFault c.from_residual.ensures.1 (store_fault c.in_err-reach.field-0.0)

pub returns-in_err-reach-clause-failures : goal.returns-in_err-reach-clause-failures
returns-in_err-reach-clause-failures g c = store_counted c.self.view_is c.from_residual.result c.in_err-reach.field-0.0 (g.P.Pages.failures c.self.inside.store) (g.P.Pages.failures c.reach.new.self) refl c.from_residual.ensures.1 c.in_err-reach.ensures.failures

pub find-found-requires-clause-within : goal.find-found-requires-clause-within
find-found-requires-clause-within g c = c.in_ok-reach.ensures.in_reach

pub find-found-requires-clause-hashed : goal.find-found-requires-clause-hashed
find-found-requires-clause-hashed g c page is =
    let P : WardState g.row.K.Denot → Type 0 = λ w. c.args.pseudokey ≡ g.K.Keyer.pseudokey_of w.keyer (key_of c.args.call.now) in
    let hashed = subst P (sym c.self.view_is) c.requires.hashed in
    let K : List ℕ → Type 0 = λ key. HasPseudokey c.args.pseudokey key page in
    subst K (sym c.key.ensures) (hashed_at c.self.invariant c.args.at page (at_read _ _ _ _ c.reach.ensures.pages is) hashed)

pub returns-in-Beyond-clause-hop : goal.returns-in-Beyond-clause-hop
returns-in-Beyond-clause-hop g c =
    let seen : SightIn c.self.inside.cap c.args.pseudokey (g.P.Pages.pages c.self.inside.store) c.args.at c.args.call.now c.of.result =
    sight_in c.self.inside.cap c.args.pseudokey (g.P.Pages.pages c.self.inside.store) c.args.at c.args.call.now c.of.result c.find-found.ensures.0 (at_read _ _ _ _ c.reach.ensures.pages c.find-found.ensures.1) (sight_found c.self.inside.cap c.args.pseudokey c.args.call.now c.of.result c.find-found.result c.key.result.now c.find-found.ensures.0 c.key.ensures c.find-found.ensures.2 c.of.ensures) in
    let Q : WardState g.row.K.Denot → Type 0 = λ w. SightIn w.cap c.args.pseudokey w.pages c.args.at c.args.call.now c.of.result in
    let sight = subst (SightIn c.args.self.now.cap c.args.pseudokey c.args.self.now.pages c.args.at c.args.call.now) c.in-Beyond.is (subst Q c.self.view_is seen) in
    let S : ℕ → Type 0 = λ k. SightIn c.args.self.now.cap k c.args.self.now.pages c.args.at c.args.call.now Beyond in
    subst S c.requires.hashed sight

pub returns-in-Beyond-clause-err : goal.returns-in-Beyond-clause-err
returns-in-Beyond-clause-err g c = tt

pub returns-in-Beyond-clause-fault : goal.returns-in-Beyond-clause-fault
returns-in-Beyond-clause-fault g c = tt

pub returns-in-Beyond-clause-leaves : goal.returns-in-Beyond-clause-leaves
returns-in-Beyond-clause-leaves g c = same_read c.self.view_is (g.P.Pages.pages c.reach.new.self) (g.P.Pages.failures c.reach.new.self) c.reach.ensures.pages c.in_ok-reach.ensures.failures

pub returns-in-Beyond-clause-failures : goal.returns-in-Beyond-clause-failures
returns-in-Beyond-clause-failures g c = same_failures c.self.view_is (g.P.Pages.failures c.reach.new.self) c.in_ok-reach.ensures.failures

pub returns-in-Beyond-clause-sound : goal.returns-in-Beyond-clause-sound
returns-in-Beyond-clause-sound g c = (invariant_of-self-in-Beyond g c).sound

pub returns-in-Leads-clause-hop : goal.returns-in-Leads-clause-hop
returns-in-Leads-clause-hop g c =
    let seen : SightIn c.self.inside.cap c.args.pseudokey (g.P.Pages.pages c.self.inside.store) c.args.at c.args.call.now c.of.result =
    sight_in c.self.inside.cap c.args.pseudokey (g.P.Pages.pages c.self.inside.store) c.args.at c.args.call.now c.of.result c.find-found.ensures.0 (at_read _ _ _ _ c.reach.ensures.pages c.find-found.ensures.1) (sight_found c.self.inside.cap c.args.pseudokey c.args.call.now c.of.result c.find-found.result c.key.result.now c.find-found.ensures.0 c.key.ensures c.find-found.ensures.2 c.of.ensures) in
    let Q : WardState g.row.K.Denot → Type 0 = λ w. SightIn w.cap c.args.pseudokey w.pages c.args.at c.args.call.now c.of.result in
    let sight = subst (SightIn c.args.self.now.cap c.args.pseudokey c.args.self.now.pages c.args.at c.args.call.now) c.in-Leads.is (subst Q c.self.view_is seen) in
    let S : ℕ → Type 0 = λ k. SightIn c.args.self.now.cap k c.args.self.now.pages c.args.at c.args.call.now (Leads c.in-Leads.next) in
    let there = subst S c.requires.hashed sight in
    (there.0, record { there = there.1; below = there.2.0 }, there.2.1)

pub returns-in-Leads-clause-err : goal.returns-in-Leads-clause-err
returns-in-Leads-clause-err g c = tt

pub returns-in-Leads-clause-fault : goal.returns-in-Leads-clause-fault
returns-in-Leads-clause-fault g c = tt

pub returns-in-Leads-clause-leaves : goal.returns-in-Leads-clause-leaves
returns-in-Leads-clause-leaves g c = same_read c.self.view_is (g.P.Pages.pages c.reach.new.self) (g.P.Pages.failures c.reach.new.self) c.reach.ensures.pages c.in_ok-reach.ensures.failures

pub returns-in-Leads-clause-failures : goal.returns-in-Leads-clause-failures
returns-in-Leads-clause-failures g c = same_failures c.self.view_is (g.P.Pages.failures c.reach.new.self) c.in_ok-reach.ensures.failures

pub returns-in-Leads-clause-sound : goal.returns-in-Leads-clause-sound
returns-in-Leads-clause-sound g c = (invariant_of-self-in-Leads g c).sound

pub returns-in-Overflows-clause-err : goal.returns-in-Overflows-clause-err
returns-in-Overflows-clause-err g c = tt

pub returns-in-Overflows-clause-fault : goal.returns-in-Overflows-clause-fault
returns-in-Overflows-clause-fault g c = tt

pub returns-in-Overflows-clause-leaves : goal.returns-in-Overflows-clause-leaves
returns-in-Overflows-clause-leaves g c = same_read c.self.view_is (g.P.Pages.pages c.reach.new.self) (g.P.Pages.failures c.reach.new.self) c.reach.ensures.pages c.in_ok-reach.ensures.failures

pub returns-in-Overflows-clause-failures : goal.returns-in-Overflows-clause-failures
returns-in-Overflows-clause-failures g c = same_failures c.self.view_is (g.P.Pages.failures c.reach.new.self) c.in_ok-reach.ensures.failures

pub returns-in-Overflows-clause-sound : goal.returns-in-Overflows-clause-sound
returns-in-Overflows-clause-sound g c = (invariant_of-self-in-Overflows g c).sound

pub answer_at-requires-clause-hashed : goal.answer_at-requires-clause-hashed
answer_at-requires-clause-hashed g c =
    let P : WardState g.row.K.Denot → Type 0 = λ w. c.args.pseudokey ≡ g.K.Keyer.pseudokey_of w.keyer (key_of c.args.call.now) in
    subst P (sym c.self.view_is) c.requires.hashed

pub returns-in_err-answer_at-clause-hop : goal.returns-in_err-answer_at-clause-hop
returns-in_err-answer_at-clause-hop g c = IfOk-from_err c.from_residual-in_err-answer_at.result _ c.from_residual-in_err-answer_at.ensures.0

pub returns-in_err-answer_at-clause-leaves : goal.returns-in_err-answer_at-clause-leaves
returns-in_err-answer_at-clause-leaves g c = IfOk-from_err c.from_residual-in_err-answer_at.result _ c.from_residual-in_err-answer_at.ensures.0

pub returns-in_err-answer_at-clause-err : goal.returns-in_err-answer_at-clause-err
returns-in_err-answer_at-clause-err g c = on_err c.from_residual-in_err-answer_at.result (c.in_err-answer_at.ensures.err ∙ unchanged_read c.self.view_is _ _ c.reach.ensures.pages)

pub returns-in_err-answer_at-clause-fault : goal.returns-in_err-answer_at-clause-fault
returns-in_err-answer_at-clause-fault g c =
    failed_with c.from_residual-in_err-answer_at.result c.in_err-answer_at.field-0.0 IsStoreFault c.from_residual-in_err-answer_at.ensures.1 c.in_err-answer_at.ensures.fault

pub returns-in_err-answer_at-clause-failures : goal.returns-in_err-answer_at-clause-failures
returns-in_err-answer_at-clause-failures g c =
    counted_from c.self.view_is c.from_residual-in_err-answer_at.result c.in_err-answer_at.field-0.0 _ _ c.in_ok-reach.ensures.failures c.from_residual-in_err-answer_at.ensures.1 c.in_err-answer_at.ensures.failures

pub returns-in_err-answer_at-clause-sound : goal.returns-in_err-answer_at-clause-sound
returns-in_err-answer_at-clause-sound g c = c.answer_at.ensures.sound

pub returns-clause-err : goal.returns-clause-err
returns-clause-err g c = tt

pub returns-clause-fault : goal.returns-clause-fault
returns-clause-fault g c = tt

pub returns-clause-failures : goal.returns-clause-failures
returns-clause-failures g c = same_failures c.self.view_is _ (c.in_ok-answer_at.ensures.failures ∙ c.in_ok-reach.ensures.failures)

pub returns-clause-sound : goal.returns-clause-sound
returns-clause-sound g c = c.answer_at.ensures.sound

pub unreachable-requires : goal.unreachable-requires
unreachable-requires g c =
    let P : WardState g.row.K.Denot → Type 0 = λ w. IsSoundWard g.K.Keyer.pseudokey_of w in
    let sound = subst P c.self.view_is c.self.invariant.sound in
    let seen : SightIn c.self.inside.cap c.args.pseudokey (g.P.Pages.pages c.self.inside.store) c.args.at c.args.call.now c.of.result =
    sight_in c.self.inside.cap c.args.pseudokey (g.P.Pages.pages c.self.inside.store) c.args.at c.args.call.now c.of.result c.find-found.ensures.0 (at_read _ _ _ _ c.reach.ensures.pages c.find-found.ensures.1) (sight_found c.self.inside.cap c.args.pseudokey c.args.call.now c.of.result c.find-found.result c.key.result.now c.find-found.ensures.0 c.key.ensures c.find-found.ensures.2 c.of.ensures) in
    let Q : WardState g.row.K.Denot → Type 0 = λ w. SightIn w.cap c.args.pseudokey w.pages c.args.at c.args.call.now c.of.result in
    let sight = subst (SightIn c.args.self.now.cap c.args.pseudokey c.args.self.now.pages c.args.at c.args.call.now) c.in-NoWay.is (subst Q c.self.view_is seen) in
    no_dead_end c.right_links_lead_on.ensures sound.legal.legal.legal c.args.at c.args.call.now c.args.pseudokey c.ranges.pseudokey.fits c.requires.covered sight

pub unreachable-unreachable : goal.unreachable-unreachable
unreachable-unreachable g c =
    let P : WardState g.row.K.Denot → Type 0 = λ w. IsSoundWard g.K.Keyer.pseudokey_of w in
    let sound = subst P c.self.view_is c.self.invariant.sound in
    let seen : SightIn c.self.inside.cap c.args.pseudokey (g.P.Pages.pages c.self.inside.store) c.args.at c.args.call.now c.of.result =
    sight_in c.self.inside.cap c.args.pseudokey (g.P.Pages.pages c.self.inside.store) c.args.at c.args.call.now c.of.result c.find-found.ensures.0 (at_read _ _ _ _ c.reach.ensures.pages c.find-found.ensures.1) (sight_found c.self.inside.cap c.args.pseudokey c.args.call.now c.of.result c.find-found.result c.key.result.now c.find-found.ensures.0 c.key.ensures c.find-found.ensures.2 c.of.ensures) in
    let Q : WardState g.row.K.Denot → Type 0 = λ w. SightIn w.cap c.args.pseudokey w.pages c.args.at c.args.call.now c.of.result in
    let sight = subst (SightIn c.args.self.now.cap c.args.pseudokey c.args.self.now.pages c.args.at c.args.call.now) c.in-NoWay.is (subst Q c.self.view_is seen) in
    no_dead_end c.right_links_lead_on.ensures sound.legal.legal.legal c.args.at c.args.call.now c.args.pseudokey c.ranges.pseudokey.fits c.requires.covered sight

pub answer_at-requires-clause-answer : goal.answer_at-requires-clause-answer
answer_at-requires-clause-answer g c =
    let pages = g.P.Pages.pages c.reach.new.self in
    let seen = sight_in c.self.inside.cap c.args.pseudokey pages c.args.at c.args.call.now c.of.result c.find-found.ensures.0 c.find-found.ensures.1 (sight_found c.self.inside.cap c.args.pseudokey c.args.call.now c.of.result c.find-found.result c.key.result.now c.find-found.ensures.0 c.key.ensures c.find-found.ensures.2 c.of.ensures) in
    record {
      home = c.in-Home.home;
      seen = subst (SightIn c.self.inside.cap c.args.pseudokey pages c.args.at c.args.call.now) c.in-Home.is seen;
      spot_is = refl;
      change_is = c.change-change.ensures;
      reply_is = c.reply-reply.ensures;
    }
