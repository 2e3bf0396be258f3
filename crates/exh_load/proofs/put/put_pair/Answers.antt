use Rattle.std.proofs.Common.{◌≡◌, inl, inr, sym, ap, ◌∙◌, subst, rules}
use Rattle.exh_prefix.specs.Prefix.{Begins}
use Rattle.exh_calls.specs.declared.call.Call.TheVariants.{Put}
use Rattle.exh_ward.specs.HopTable.{HopOf}
use Rattle.exh_ward.specs.WardFault.{CountsFailures}
use Rattle.exh_ward.specs.WardState.{IsSoundWard, LeavesAfter}
use Rattle.exh_file.specs.HomeLemmas.{IsFullHome, full_home, left_same, never_moved, never_stray}
use Rattle.exh_file.specs.SplitLemmas.{at_most_on, call_done, own_kept, splits_keep}
use Rattle.exh_file.specs.WardChange.{AreSplitsAtMost, IsFullAt, IsSplitAway}
use Rattle.exh_file.specs.declared.ward_change.TheConstants.{CHANGER}
use Rattle.exh_load.proofs.ToldHomes.{told_home, told_turn_over}
use Rattle.exh_load.proofs.put.put_pair.Goals as goal

pub hop_hashed-requires-clause-hashed : goal.hop_hashed-requires-clause-hashed
hop_hashed-requires-clause-hashed g c =
    let kept = splits_keep c.args.ward.now c.turns.invariant.turns.splits c.turns.ward c.turns.invariant.turns.run in
    c.requires.hashed ∙ ap (λ keyer. g.K.Keyer.pseudokey_of keyer c.args.key) (sym kept.keyer)

pub hop_hashed-requires-clause-covered : goal.hop_hashed-requires-clause-covered
hop_hashed-requires-clause-covered g c =
    let kept = splits_keep c.args.ward.now c.turns.invariant.turns.splits c.turns.ward c.turns.invariant.turns.run in
    subst (λ own. Begins own c.args.pseudokey) (sym (own_kept c.args.ward.now c.turns.ward kept)) c.requires.covered

pub returns-in_err-reply-clause-err : goal.returns-in_err-reply-clause-err
returns-in_err-reply-clause-err g c =
    let fact : AreSplitsAtMost c.args.ward.now c.hop_hashed.new.self = record { splits = c.turns.invariant.turns.splits; split = c.turns.ward; run = c.turns.invariant.turns.run; else_same = c.in_err-reply.ensures.err } in
    search rules

pub returns-in_err-reply-clause-failures : goal.returns-in_err-reply-clause-failures
returns-in_err-reply-clause-failures g c =
    let kept = splits_keep c.args.ward.now c.turns.invariant.turns.splits c.turns.ward c.turns.invariant.turns.run in
    let fact : CountsFailures c.hop_hashed.result c.args.ward.now.failures c.hop_hashed.new.self.failures =
    subst (λ n. CountsFailures c.hop_hashed.result n c.hop_hashed.new.self.failures) kept.failures c.hop_hashed.ensures.failures in
    search rules

pub returns-in-Done-clause-put : goal.returns-in-Done-clause-put
returns-in-Done-clause-put g c =
    call_done g.K.Keyer.pseudokey_of c.args.ward.now c.turns.ward c.hop_hashed.new.self c.turns.invariant.turns.splits c.walk-at.result (Put c.args.key c.args.value) c.in_ok-reply.field-0 c.in-Done.reply
    c.turns.invariant.turns.run c.in-Done.is c.in_ok-reply.ensures.hop c.in_ok-reply.ensures.leaves

pub returns-in-Done-clause-failures : goal.returns-in-Done-clause-failures
returns-in-Done-clause-failures g c =
    let kept = splits_keep c.args.ward.now c.turns.invariant.turns.splits c.turns.ward c.turns.invariant.turns.run in
    c.in_ok-reply.ensures.failures ∙ kept.failures

pub split_told-requires-clause-full : goal.split_told-requires-clause-full
split_told-requires-clause-full g c =
    let pseudokey_of = g.K.Keyer.pseudokey_of in
    let call = Put c.args.key c.args.value in
    let same = left_same pseudokey_of c.turns.ward c.hop_hashed.new.self c.walk-at.result call c.in_ok-reply.field-0 c.in-MustSplit.is c.in_ok-reply.ensures.leaves in
    let home = full_home pseudokey_of c.turns.ward c.walk-at.result call c.in_ok-reply.field-0 c.in-MustSplit.is c.in_ok-reply.ensures.hop in
    subst (λ ward. IsFullAt ward c.walk-at.result) (sym same) home.full

pub returns-in_err-split_told-in-MustSplit-clause-err : goal.returns-in_err-split_told-in-MustSplit-clause-err
returns-in_err-split_told-in-MustSplit-clause-err g c =
    let pseudokey_of = g.K.Keyer.pseudokey_of in
    let call = Put c.args.key c.args.value in
    let same = left_same pseudokey_of c.turns.ward c.hop_hashed.new.self c.walk-at.result call c.in_ok-reply.field-0 c.in-MustSplit.is c.in_ok-reply.ensures.leaves in
    let most : AreSplitsAtMost c.turns.ward c.split_told.new.ward = subst (λ ward. AreSplitsAtMost ward c.split_told.new.ward) same c.in_err-split_told-in-MustSplit.ensures.err in
    let fact : AreSplitsAtMost c.args.ward.now c.split_told.new.ward = at_most_on c.args.ward.now c.turns.ward c.split_told.new.ward c.turns.invariant.turns.splits c.turns.invariant.turns.run most in
    search rules

pub returns-in_err-split_told-in-MustSplit-clause-failures : goal.returns-in_err-split_told-in-MustSplit-clause-failures
returns-in_err-split_told-in-MustSplit-clause-failures g c =
    let kept = splits_keep c.args.ward.now c.turns.invariant.turns.splits c.turns.ward c.turns.invariant.turns.run in
    let failures = c.in_ok-reply.ensures.failures ∙ kept.failures in
    let fact : CountsFailures c.split_told.result c.args.ward.now.failures c.split_told.new.ward.failures =
    subst (λ n. CountsFailures c.split_told.result n c.split_told.new.ward.failures) failures c.split_told.ensures.failures in
    search rules

pub unreachable-requires : goal.unreachable-requires
unreachable-requires g c =
    let pseudokey_of = g.K.Keyer.pseudokey_of in
    let call = Put c.args.key c.args.value in
    let ward = c.turns.ward in
    let new = c.hop_hashed.new.self in
    let at = c.walk-at.result in
    let hop = c.in_ok-reply.field-0 in
    let kept = splits_keep c.args.ward.now c.turns.invariant.turns.splits ward c.turns.invariant.turns.run in
    let hashed = c.requires.hashed ∙ ap (λ keyer. pseudokey_of keyer c.args.key) (sym kept.keyer) in
    let covered = subst (λ own. Begins own c.args.pseudokey) (sym (own_kept c.args.ward.now ward kept)) c.requires.covered in
    elim c.in-Moved.is [
      | inl moved ↦
          let same : new ≡ ward = subst (λ h. LeavesAfter pseudokey_of ward at CHANGER call h new) moved.1 c.in_ok-reply.ensures.leaves in
          let sound = subst (IsSoundWard pseudokey_of) same c.in_ok-reply.ensures.sound in
          let home = told_home pseudokey_of ward c.turns.directory c.args.pseudokey at c.walks_name_homes.ensures sound c.turns.invariant.told c.ranges.pseudokey.fits covered c.walk-at.ensures.page in
          never_moved pseudokey_of ward c.args.pseudokey sound at home c.ranges.pseudokey.fits call hashed moved.0 (subst (HopOf ward.cap (pseudokey_of ward.keyer) ward.pages at call) moved.1 c.in_ok-reply.ensures.hop)
      | inr stray ↦
          let same : new ≡ ward = subst (λ h. LeavesAfter pseudokey_of ward at CHANGER call h new) stray c.in_ok-reply.ensures.leaves in
          let sound = subst (IsSoundWard pseudokey_of) same c.in_ok-reply.ensures.sound in
          let home = told_home pseudokey_of ward c.turns.directory c.args.pseudokey at c.walks_name_homes.ensures sound c.turns.invariant.told c.ranges.pseudokey.fits covered c.walk-at.ensures.page in
          never_stray pseudokey_of ward c.args.pseudokey sound at home c.ranges.pseudokey.fits call hashed (subst (HopOf ward.cap (pseudokey_of ward.keyer) ward.pages at call) stray c.in_ok-reply.ensures.hop)
    ]

pub turns-preserved : goal.turns-preserved
turns-preserved g c =
    let pseudokey_of = g.K.Keyer.pseudokey_of in
    let call = Put c.args.key c.args.value in
    let ward = c.turns.ward in
    let at = c.walk-at.result in
    let same = left_same pseudokey_of ward c.hop_hashed.new.self at call c.in_ok-reply.field-0 c.in-MustSplit.is c.in_ok-reply.ensures.leaves in
    let home = full_home pseudokey_of ward at call c.in_ok-reply.field-0 c.in-MustSplit.is c.in_ok-reply.ensures.hop in
    let kept = splits_keep c.args.ward.now c.turns.invariant.turns.splits ward c.turns.invariant.turns.run in
    let hashed = c.requires.hashed ∙ ap (λ keyer. pseudokey_of keyer c.args.key) (sym kept.keyer) in
    told_turn_over pseudokey_of c.args.ward.now c.args.pseudokey c.turns.turn ward c.turns.directory at c.split_told.new.ward c.split_told.new.directory c.turns.invariant
    (subst (IsSoundWard pseudokey_of) same c.in_ok-reply.ensures.sound) (subst (λ k. IsFullHome ward k at) (sym hashed) home)
    (subst (λ w. IsSplitAway w at c.split_told.new.ward) same c.in_ok-split_told-in-MustSplit.ensures.split) c.in_ok-split_told-in-MustSplit.ensures.told
