use Rattle.std.proofs.Common.{ℕ, List, inl, inr, sym, ap, ◌∙◌, subst, arith}
use Rattle.std.proofs.lemmas.Bool.{false≢true}
use Rattle.exh_prefix.specs.Prefix.{Begins}
use Rattle.exh_calls.specs.Call.{key_of}
use Rattle.exh_ward.specs.WardState.{own_prefix}
use Rattle.exh_live.proofs.Refusals.{hop_refused}
use Rattle.exh_live.proofs.locked_ward.LockedWardSteps.hop_hashed.Goals as goal

pub returns-then-not-covers-clause-step : goal.returns-then-not-covers-clause-step
returns-then-not-covers-clause-step g c =
    let ward = c.deref-2.result.now.ward in
    let same = ap (λ (hash : List ℕ → ℕ). hash (key_of c.args.call.now)) c.covers.ensures.hashed ∙ sym c.requires.1 in (
      omega arith,
      (ward, ward, c.covers.ensures.sound, inr (λ begins. false≢true (sym c.if-not-covers.true ∙ c.covers.ensures.covers.1 (subst (Begins (own_prefix ward)) same begins)))),
      tt,
    )

pub returns-clause-step : goal.returns-clause-step
returns-clause-step g c =
    (c.hop_counted.ensures.units, (_, _, c.hop_counted.ensures.step.0, inl c.hop_counted.ensures.step.1), hop_refused g.P.Pages.failures g.K.Keyer.pseudokey_of c.args.at c.args.client c.args.call.now c.hop_counted.result c.hop_counted.ensures.refused)
