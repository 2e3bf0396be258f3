use Rattle.std.proofs.Common.{◌≡◌, ℕ, ◌+◌, List, length, Ok, refl, sym, ap, ◌∙◌, subst, arith}
use Rattle.std.proofs.lemmas.List.{length_push}
use Rattle.std.specs.declared.sync.ledger.Share.{Share}
use Rattle.exh_calls.specs.declared.call.Call.{Call}
use Rattle.exh_calls.specs.declared.reply.Reply.{Reply}
use Rattle.exh_ward.specs.WardState.{WardState, IsAnswered, LeavesAfter}
use Rattle.exh_ward.specs.declared.hop.Hop.{Hop}
use Rattle.exh_ward.specs.declared.hop.Hop.TheVariants.{Done, Moved, MustSplit, Stray}
use Rattle.exh_walk.specs.WardRun.{HopAt, answer_of}
use Rattle.exh_walk.specs.WardStep.{IsWardStep}
use Rattle.exh_live.specs.WardParts.{parts_of_number, ward_parts}
use Rattle.exh_live.specs.declared.ledgers.Answers.{Answers}
use Rattle.exh_live.specs.declared.tallied_ward.TalliedWard.{TalliedWard}
use Rattle.exh_live.proofs.Order.{some_parts}
use Rattle.exh_live.proofs.tallied_ward.TalliedWard.hop.Given.{Over}
use Rattle.exh_live.proofs.tallied_ward.TalliedWard.hop.Goals.{in-Done, in_default, Joined-hop}
use Rattle.exh_live.proofs.tallied_ward.TalliedWard.hop.Goals as goal

unanswered : {K : Type 0} (pseudokey_of : K → List ℕ → ℕ) (old : WardState K) (at client : ℕ) (call : Call) (hop : Hop) (new : WardState K) → ((reply : Reply) → hop ≡ Done reply → ⊥) → LeavesAfter pseudokey_of old at client call hop new → new ≡ old
unanswered pseudokey_of old at client call (Done reply) new not leaves = absurd (not reply refl)
unanswered pseudokey_of old at client call (Moved next) new not leaves = leaves
unanswered pseudokey_of old at client call MustSplit new not leaves = leaves
unanswered pseudokey_of old at client call Stray new not leaves = leaves

none_given : (at client : ℕ) (call : Call) (hop : Hop) (was : ℕ) → ((reply : Reply) → hop ≡ Done reply → ⊥) → was ≡ was + length (answer_of (HopAt at client call (Ok hop)))
none_given at client call (Done reply) was not = absurd (not reply refl)
none_given at client call (Moved next) was not = omega arith
none_given at client call MustSplit was not = omega arith
none_given at client call Stray was not = omega arith

numbered_still : (entries now spare old new : ℕ) → now ≡ entries → new ≡ old → (entries ≡ parts_of_number old) × (spare + parts_of_number old ≡ ward_parts) → (now ≡ parts_of_number new) × (spare + parts_of_number new ≡ ward_parts)
numbered_still entries now spare old new kept same was = (kept ∙ was.0 ∙ ap parts_of_number (sym same), ap (λ parts. spare + parts) (ap parts_of_number same) ∙ was.1)

-- whatever the hop came to, the ward is as it left it
ward_left : (g : Over) (c : Joined-hop g) → c.match-hop.self.ward ≡ c.hop_hashed.new.self
ward_left g c =
    let Tallied : Type 0 = TalliedWard g.row.P.Denot g.row.K.Denot g.row.F.Denot g.P.Pages g.K.Keyer g.F.Identity in
    elim c.match-hop.branch [ in-Done w ↦ ap (λ (tallied : Tallied). tallied.ward) w.self-is | in_default w ↦ ap (λ (tallied : Tallied). tallied.ward) w.self-is ]

pub count-requires-clause-ward : goal.count-requires-clause-ward
count-requires-clause-ward g c = omega (arith, some_parts c.args.self.now.ward.number, c.args.self.now.numbered.0)

pub invariant_of-self-in-Done : goal.invariant_of-self-in-Done
invariant_of-self-in-Done g c =
    let was = c.args.self.now in
    let answered : IsAnswered g.K.Keyer.pseudokey_of was.ward c.args.at c.args.client c.args.call.now c.in-Done.field-0 c.hop_hashed.new.self =
    subst (λ hop. LeavesAfter g.K.Keyer.pseudokey_of was.ward c.args.at c.args.client c.args.call.now hop c.hop_hashed.new.self) c.in-Done.is c.in_ok-hop.ensures.leaves in
    record {
      counted = c.count.ensures.entries ∙ ap (λ (n : ℕ). n + 1) was.counted ∙ sym (ap length answered.journal ∙ length_push was.ward.journal _);
      numbered = numbered_still _ _ was.spare.parts _ _ c.count.ensures.ward (ap (λ (ward : WardState g.row.K.Denot). ward.number) answered.others) was.numbered;
      none_spare = was.none_spare;
      hashed = ap (λ (ward : WardState g.row.K.Denot). g.K.Keyer.pseudokey_of ward.keyer) answered.others ∙ was.hashed;
    }

pub invariant_of-self-in_default : goal.invariant_of-self-in_default
invariant_of-self-in_default g c =
    let was = c.args.self.now in
    let same = unanswered g.K.Keyer.pseudokey_of was.ward c.args.at c.args.client c.args.call.now c.in_ok-hop.hop c.hop_hashed.new.self c.in_default.not-Done c.in_ok-hop.ensures.leaves in
    record {
      counted = was.counted ∙ sym (ap (λ (ward : WardState g.row.K.Denot). length ward.journal) same);
      numbered = subst (λ (ward : WardState g.row.K.Denot). (was.entries.parts ≡ parts_of_number ward.number) × (was.spare.parts + parts_of_number ward.number ≡ ward_parts)) (sym same) was.numbered;
      none_spare = was.none_spare;
      hashed = ap (λ (ward : WardState g.row.K.Denot). g.K.Keyer.pseudokey_of ward.keyer) same ∙ was.hashed;
    }

pub returns-clause-leaves : goal.returns-clause-leaves
returns-clause-leaves g c =
    subst (LeavesAfter g.K.Keyer.pseudokey_of c.args.self.now.ward c.args.at c.args.client c.args.call.now c.in_ok-hop.hop) (sym (ward_left g c)) c.in_ok-hop.ensures.leaves

pub returns-clause-failures : goal.returns-clause-failures
returns-clause-failures g c =
    subst (λ (ward : WardState g.row.K.Denot). ward.failures ≡ c.args.self.now.ward.failures) (sym (ward_left g c)) c.in_ok-hop.ensures.failures

pub returns-clause-step : goal.returns-clause-step
returns-clause-step g c = (
  c.journal.ensures.sound,
  subst (IsWardStep g.K.Keyer.pseudokey_of c.args.self.now.ward (HopAt c.args.at c.args.client c.args.call.now (Ok c.in_ok-hop.hop))) (sym (ward_left g c))
      (record { step = (c.in_ok-hop.ensures.hop, c.in_ok-hop.ensures.leaves); refused = tt; failures = c.in_ok-hop.ensures.failures; sound = c.hop_hashed.ensures.sound }),
)

pub returns-clause-units : goal.returns-clause-units
returns-clause-units g c =
    let amount : Share (Answers g.row.F.Denot) → ℕ = λ share. share.amount in
    elim c.match-hop.branch [
      | in-Done w ↦
          ap amount w.answers-is ∙ w.count.ensures.answers
          ∙ ap (λ hop. c.args.answers.now.amount + length (answer_of (HopAt c.args.at c.args.client c.args.call.now (Ok hop)))) (sym w.in-Done.is)
      | in_default w ↦ ap amount w.answers-is ∙ none_given c.args.at c.args.client c.args.call.now c.in_ok-hop.hop c.args.answers.now.amount w.in_default.not-Done
    ]

pub returns-clause-seat : goal.returns-clause-seat
returns-clause-seat g c =
    let parts : Share (Answers g.row.F.Denot) → ℕ = λ share. share.parts in
    elim c.match-hop.branch [ in-Done w ↦ ap parts w.answers-is ∙ w.count.ensures.seat | in_default w ↦ ap parts w.answers-is ]
