use Rattle.std.proofs.Common.{◌≡◌, ◌+◌, ℕ, arith, length, subst}
use Rattle.exh_prefix.specs.LeadingLemmas.{leading-lt}
use Rattle.exh_walk.specs.WardRun.{WardEvent, answer_of}
use Rattle.exh_live.specs.Locked.{IsLockedWalk, IsSomeWardsStep}
use Rattle.exh_live.specs.Refused.{IsRefusedSo}
use Rattle.exh_live.specs.declared.locked_ward.LockedWard.{LockedWard}
use Rattle.exh_live.proofs.Refusals.{walk_counted}
use Rattle.exh_live.proofs.Walks.{known_walk, walk_adds}
use Rattle.exh_live.proofs.live_file.LiveFile.walk.Goals as goal

pub returns-clause-units : goal.returns-clause-units
returns-clause-units g c =
    let Locked : Type 0 = LockedWard g.row.P.Denot g.row.K.Denot g.row.F.Denot g.row.R.Denot g.P.Pages g.K.Keyer g.F.Identity in
    let amount : Locked → ℕ = λ ward. ward.answers.amount in
    let step : Locked → WardEvent → Locked → Type 0 = λ old event new. (new.answers.amount ≡ old.answers.amount + length (answer_of event)) × IsSomeWardsStep g.K.Keyer.pseudokey_of event × IsRefusedSo g.P.Pages.failures g.K.Keyer.pseudokey_of event in
    let walk = c.walk_steps-result.ensures.walk in
    let all = walk_adds step amount (λ old new event is. is.0) (g.G.Gate.may c.args.gate.now c.args.client) _ c.walk_steps-result.new.steps c.args.at c.args.client c.args.call.now walk.0 _ walk.2 in
    omega (arith, all)

pub returns-clause-walk : goal.returns-clause-walk
returns-clause-walk g c =
    let Locked : Type 0 = LockedWard g.row.P.Denot g.row.K.Denot g.row.F.Denot g.row.R.Denot g.P.Pages g.K.Keyer g.F.Identity in
    let Known : WardEvent → Type 0 = IsSomeWardsStep g.K.Keyer.pseudokey_of in
    let step : Locked → WardEvent → Locked → Type 0 = λ old event new. (new.answers.amount ≡ old.answers.amount + length (answer_of event)) × Known event × IsRefusedSo g.P.Pages.failures g.K.Keyer.pseudokey_of event in
    let may = g.G.Gate.may c.args.gate.now c.args.client in
    let walk = c.walk_steps-result.ensures.walk in
    let known = known_walk step Known (λ old new event is. is.1) may _ c.walk_steps-result.new.steps c.args.at c.args.client c.args.call.now walk.0 _ walk.2 in
    subst (λ pseudokey. IsLockedWalk g.K.Keyer.pseudokey_of may c.args.at c.args.client c.args.call.now pseudokey c.walk_steps-result.result) walk.1.0 known

pub returns-clause-counted : goal.returns-clause-counted
returns-clause-counted g c =
    let Locked : Type 0 = LockedWard g.row.P.Denot g.row.K.Denot g.row.F.Denot g.row.R.Denot g.P.Pages g.K.Keyer g.F.Identity in
    let Refused : WardEvent → Type 0 = IsRefusedSo g.P.Pages.failures g.K.Keyer.pseudokey_of in
    let step : Locked → WardEvent → Locked → Type 0 = λ old event new. (new.answers.amount ≡ old.answers.amount + length (answer_of event)) × IsSomeWardsStep g.K.Keyer.pseudokey_of event × Refused event in
    let walk = c.walk_steps-result.ensures.walk in
    walk_counted g.P.Pages.failures g.K.Keyer.pseudokey_of step (λ old new event is. is.2) (g.G.Gate.may c.args.gate.now c.args.client) _ c.walk_steps-result.new.steps c.args.at c.args.client c.args.call.now walk.0 _ walk.2

pub index-requires : goal.index-requires
index-requires g c =
    let below = leading-lt c.self.inside.settings.ward_bits c.args.pseudokey (omega (arith, c.self.invariant.0)) in
    omega (arith, below, c.self.invariant.1, c.ward_number-number.ensures, c.from.ensures)
