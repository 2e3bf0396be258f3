use Rattle.std.proofs.Common.{◌≡◌, ℕ, Result, Ok, Err, IsErrAnd, inl, inr, sym, ap, ◌∙◌, subst}
use Rattle.exh_prefix.specs.Prefix.{Begins}
use Rattle.exh_calls.specs.Call.{key_of}
use Rattle.exh_stream.specs.OutputLemmas.{OnErr-from}
use Rattle.exh_ward.specs.declared.hop.Hop.{Hop}
use Rattle.exh_ward.specs.declared.ward_fault.WardFault.{WardFault}
use Rattle.exh_ward.specs.declared.ward_fault.WardFault.TheVariants.{NoPage, NotLive, NotFull, AtLimit, NoBuddy, BuddySplit, TooMany, Worn, Memory, Page}
use Rattle.exh_ward.specs.HopTable.{HopOf}
use Rattle.exh_ward.specs.WardFault.{CountsFailures}
use Rattle.exh_file.specs.WardChange.{AreSplitsAtMost, IsFullAt, IsSplitAway}
use Rattle.exh_file.specs.HomeLemmas.{IsFullHome, full_home, left_same, never_moved, never_stray}
use Rattle.exh_file.specs.SplitLemmas.{at_most_on, call_done, own_kept, splits_keep}
use Rattle.exh_file.specs.TurnLemmas.{turn_over}
use Rattle.exh_file.proofs.ward_change.change_ward.Goals as goal

-- the same fault of a call that gives another value
other_value : (T U : Type 0) (fault : WardFault) (old new : ℕ) → CountsFailures {T = U} (Err fault) old new → CountsFailures {T = T} (Err fault) old new
other_value T U NoPage old new counts = counts
other_value T U NotLive old new counts = counts
other_value T U NotFull old new counts = counts
other_value T U AtLimit old new counts = counts
other_value T U NoBuddy old new counts = counts
other_value T U BuddySplit old new counts = counts
other_value T U (TooMany sum) old new counts = counts
other_value T U Worn old new counts = counts
other_value T U Memory old new counts = counts
other_value T U Page old new counts = counts

counted_on : {T : Type 0} (U : Type 0) (r : Result T WardFault) (fault : WardFault) (was old new : ℕ) → was ≡ old → IsErrAnd r (λ other. other ≡ fault) → CountsFailures {T = U} (Err fault) was new → CountsFailures r old new
counted_on U (Ok value) fault was old new same is counts = absurd is
counted_on {T = T} U (Err other) fault was old new same is counts =
    other_value T U other old new (subst (λ fault. CountsFailures {T = U} (Err fault) old new) (sym is) (subst (λ old. CountsFailures {T = U} (Err fault) old new) same counts))

pub named_page-at-requires : goal.named_page-at-requires
named_page-at-requires g c =
    let kept = splits_keep c.args.ward.now c.turns.invariant.splits c.turns.ward c.turns.invariant.run in
    subst (λ own. Begins own c.args.pseudokey) (sym (own_kept c.args.ward.now c.turns.ward kept)) c.requires.covered

pub hop_hashed-requires-clause-hashed : goal.hop_hashed-requires-clause-hashed
hop_hashed-requires-clause-hashed g c =
    let kept = splits_keep c.args.ward.now c.turns.invariant.splits c.turns.ward c.turns.invariant.run in
    c.requires.hashed ∙ ap (λ keyer. g.K.Keyer.pseudokey_of keyer (key_of c.args.call.now)) (sym kept.keyer)

pub hop_hashed-requires-clause-covered : goal.hop_hashed-requires-clause-covered
hop_hashed-requires-clause-covered g c =
    let kept = splits_keep c.args.ward.now c.turns.invariant.splits c.turns.ward c.turns.invariant.run in
    subst (λ own. Begins own c.args.pseudokey) (sym (own_kept c.args.ward.now c.turns.ward kept)) c.requires.covered

pub returns-in_err-reply-clause-err : goal.returns-in_err-reply-clause-err
returns-in_err-reply-clause-err g c =
    OnErr-from c.from_residual.result (record { splits = c.turns.invariant.splits; split = c.turns.ward; run = c.turns.invariant.run; else_same = c.in_err-reply.ensures.err })

pub returns-in_err-reply-clause-failures : goal.returns-in_err-reply-clause-failures
returns-in_err-reply-clause-failures g c =
    let kept = splits_keep c.args.ward.now c.turns.invariant.splits c.turns.ward c.turns.invariant.run in
    counted_on Hop c.from_residual.result c.in_err-reply.field-0.0 c.turns.ward.failures c.args.ward.now.failures c.hop_hashed.new.self.failures kept.failures c.from_residual.ensures.1 c.in_err-reply.ensures.failures

pub returns-in-Done-clause-changed : goal.returns-in-Done-clause-changed
returns-in-Done-clause-changed g c =
    call_done g.K.Keyer.pseudokey_of c.args.ward.now c.turns.ward c.hop_hashed.new.self c.turns.invariant.splits c.named_page-at.result c.args.call.now c.in_ok-reply.field-0 c.in-Done.reply
    c.turns.invariant.run c.in-Done.is c.in_ok-reply.ensures.hop c.in_ok-reply.ensures.leaves

pub returns-in-Done-clause-failures : goal.returns-in-Done-clause-failures
returns-in-Done-clause-failures g c =
    let kept = splits_keep c.args.ward.now c.turns.invariant.splits c.turns.ward c.turns.invariant.run in
    c.in_ok-reply.ensures.failures ∙ kept.failures

pub split_full-requires : goal.split_full-requires
split_full-requires g c =
    let pseudokey_of = g.K.Keyer.pseudokey_of in
    let call = c.args.call.now in
    let at = c.named_page-at.result in
    let same = left_same pseudokey_of c.turns.ward c.hop_hashed.new.self at call c.in_ok-reply.field-0 c.in-MustSplit.is c.in_ok-reply.ensures.leaves in
    let home = full_home pseudokey_of c.turns.ward at call c.in_ok-reply.field-0 c.in-MustSplit.is c.in_ok-reply.ensures.hop in
    subst (λ ward. IsFullAt ward at) (sym same) home.full

pub returns-in_err-split_full-in-MustSplit-clause-err : goal.returns-in_err-split_full-in-MustSplit-clause-err
returns-in_err-split_full-in-MustSplit-clause-err g c =
    let pseudokey_of = g.K.Keyer.pseudokey_of in
    let call = c.args.call.now in
    let same = left_same pseudokey_of c.turns.ward c.hop_hashed.new.self c.named_page-at.result call c.in_ok-reply.field-0 c.in-MustSplit.is c.in_ok-reply.ensures.leaves in
    let most : AreSplitsAtMost c.turns.ward c.split_full.new.ward = subst (λ ward. AreSplitsAtMost ward c.split_full.new.ward) same c.in_err-split_full-in-MustSplit.ensures.err in
    OnErr-from c.from_residual-in_err-split_full-in-MustSplit.result (at_most_on c.args.ward.now c.turns.ward c.split_full.new.ward c.turns.invariant.splits c.turns.invariant.run most)

pub returns-in_err-split_full-in-MustSplit-clause-failures : goal.returns-in_err-split_full-in-MustSplit-clause-failures
returns-in_err-split_full-in-MustSplit-clause-failures g c =
    let kept = splits_keep c.args.ward.now c.turns.invariant.splits c.turns.ward c.turns.invariant.run in
    let failures = c.in_ok-reply.ensures.failures ∙ kept.failures in
    let fault = c.in_err-split_full-in-MustSplit.field-0.0 in
    counted_on (Unit {0}) c.from_residual-in_err-split_full-in-MustSplit.result fault c.hop_hashed.new.self.failures c.args.ward.now.failures c.split_full.new.ward.failures failures c.from_residual-in_err-split_full-in-MustSplit.ensures.1 c.in_err-split_full-in-MustSplit.ensures.failures

pub unreachable-requires : goal.unreachable-requires
unreachable-requires g c =
    let pseudokey_of = g.K.Keyer.pseudokey_of in
    let call = c.args.call.now in
    let ward = c.turns.ward in
    let at = c.named_page-at.result in
    let kept = splits_keep c.args.ward.now c.turns.invariant.splits ward c.turns.invariant.run in
    let hashed = c.requires.hashed ∙ ap (λ keyer. pseudokey_of keyer (key_of call)) (sym kept.keyer) in
    let home = c.named_page-at.ensures.home in
    let sound = c.named_page-at.ensures.sound in
    elim c.in-Moved.is [
      | inl moved ↦
          never_moved pseudokey_of ward c.args.pseudokey sound at home c.ranges.pseudokey.fits call hashed moved.0 (subst (HopOf ward.cap (pseudokey_of ward.keyer) ward.pages at call) moved.1 c.in_ok-reply.ensures.hop)
      | inr stray ↦
          never_stray pseudokey_of ward c.args.pseudokey sound at home c.ranges.pseudokey.fits call hashed (subst (HopOf ward.cap (pseudokey_of ward.keyer) ward.pages at call) stray c.in_ok-reply.ensures.hop)
    ]

pub turns-preserved : goal.turns-preserved
turns-preserved g c =
    let pseudokey_of = g.K.Keyer.pseudokey_of in
    let call = c.args.call.now in
    let ward = c.turns.ward in
    let at = c.named_page-at.result in
    let same = left_same pseudokey_of ward c.hop_hashed.new.self at call c.in_ok-reply.field-0 c.in-MustSplit.is c.in_ok-reply.ensures.leaves in
    let home = full_home pseudokey_of ward at call c.in_ok-reply.field-0 c.in-MustSplit.is c.in_ok-reply.ensures.hop in
    let kept = splits_keep c.args.ward.now c.turns.invariant.splits ward c.turns.invariant.run in
    let hashed = c.requires.hashed ∙ ap (λ keyer. pseudokey_of keyer (key_of call)) (sym kept.keyer) in
    turn_over pseudokey_of c.args.ward.now c.args.pseudokey c.turns.turn ward at c.split_full.new.ward c.turns.invariant c.named_page-at.ensures.sound (subst (λ k. IsFullHome ward k at) (sym hashed) home)
    (subst (λ w. IsSplitAway w at c.split_full.new.ward) same c.in_ok-split_full-in-MustSplit.ensures.split)
