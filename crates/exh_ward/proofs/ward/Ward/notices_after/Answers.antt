use Rattle.std.proofs.Common.{◌≡◌, ℕ, List, ◌-◌, drop, sym, ap, ◌∙◌, subst, arith, length-drop}
use Rattle.std.proofs.lemmas.List.{drop_all, take_all}
use Rattle.exh_ward.specs.WardState.{WardState, IsSoundWard, notices_above}
use Rattle.exh_ward.proofs.NoticesAbove.{above_is_drop}
use Rattle.exh_ward.proofs.ward.Ward.notices_after.Goals as goal

sound_seen : {K : Type 0} {w now : WardState K} → w ≡ now → (pseudokey_of : K → List ℕ → ℕ) → IsSoundWard pseudokey_of w → IsSoundWard pseudokey_of now
sound_seen same pseudokey_of sound = subst (IsSoundWard pseudokey_of) same sound

pub returns-then-known-len-clause-notices : goal.returns-then-known-len-clause-notices
returns-then-known-len-clause-notices g c =
    let notices = c.self.inside.notices.items in
    let known = c.saturating_sub-known.result in
    take_all _ _ (omega (arith, length-drop known c.deref.result.now))
    ∙ ap (drop known) c.deref.ensures.value
    ∙ ap (λ k. drop k notices) (c.saturating_sub-known.ensures ∙ ap (λ told. c.args.n - told) c.self.invariant.told_is)
    ∙ sym (above_is_drop notices _ c.args.n (λ place notice is. (c.self.invariant.sound.numbered place notice is).1))
    ∙ ap (λ (w : WardState g.row.K.Denot). notices_above c.args.n w.notices) c.self.view_is

pub returns-else-known-len-clause-notices : goal.returns-else-known-len-clause-notices
returns-else-known-len-clause-notices g c =
    let notices = c.self.inside.notices.items in
    let known = c.saturating_sub-known.result in
    sym (drop_all known notices (omega (arith, c.if-known-len.false, c.len.ensures)))
    ∙ ap (λ k. drop k notices) (c.saturating_sub-known.ensures ∙ ap (λ told. c.args.n - told) c.self.invariant.told_is)
    ∙ sym (above_is_drop notices _ c.args.n (λ place notice is. (c.self.invariant.sound.numbered place notice is).1))
    ∙ ap (λ (w : WardState g.row.K.Denot). notices_above c.args.n w.notices) c.self.view_is

pub returns-then-known-len-clause-sound : goal.returns-then-known-len-clause-sound
returns-then-known-len-clause-sound g c = sound_seen c.self.view_is g.K.Keyer.pseudokey_of c.self.invariant.sound

pub returns-else-known-len-clause-sound : goal.returns-else-known-len-clause-sound
returns-else-known-len-clause-sound g c = sound_seen c.self.view_is g.K.Keyer.pseudokey_of c.self.invariant.sound
