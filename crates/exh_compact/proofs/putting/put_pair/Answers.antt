use Rattle.std.proofs.Common.{[], inl, inr, refl, sym, ap, ◌∙◌, subst, arith}
use Rattle.exh_keyer.specs.Pseudokey.{any_pseudokey}
use Rattle.exh_prefix.specs.Prefix.{Begins}
use Rattle.exh_calls.specs.declared.call.Call.TheVariants.{Put}
use Rattle.exh_ward.specs.HopTable.{HopOf}
use Rattle.exhash.specs.HomeLemmas.{IsFullHome, full_home, left_same, never_moved, never_stray}
use Rattle.exhash.specs.SplitLemmas.{call_done, own_kept, splits_keep}
use Rattle.exhash.specs.TurnLemmas.{turn_over}
use Rattle.exhash.specs.WardChange.{IsSplitAway}
use Rattle.exh_compact.proofs.PutLemmas.{absent, begun_with, done_needed, turn_needed}
use Rattle.exh_compact.proofs.putting.put_pair.Goals as goal

pub named_page-at-requires : goal.named_page-at-requires
named_page-at-requires g c =
    let turns = c.turns.invariant.turns in
    let kept = splits_keep c.args.ward.now turns.splits c.turns.ward turns.run in
    subst (λ own. Begins own c.args.pseudokey) (sym (own_kept c.args.ward.now c.turns.ward kept)) c.requires.covered

pub hop_hashed-requires-clause-hashed : goal.hop_hashed-requires-clause-hashed
hop_hashed-requires-clause-hashed g c =
    let turns = c.turns.invariant.turns in
    let kept = splits_keep c.args.ward.now turns.splits c.turns.ward turns.run in
    c.requires.hashed ∙ ap (λ keyer. any_pseudokey keyer c.args.key.now) (sym kept.keyer)

pub hop_hashed-requires-clause-covered : goal.hop_hashed-requires-clause-covered
hop_hashed-requires-clause-covered g c =
    let turns = c.turns.invariant.turns in
    let kept = splits_keep c.args.ward.now turns.splits c.turns.ward turns.run in
    subst (λ own. Begins own c.args.pseudokey) (sym (own_kept c.args.ward.now c.turns.ward kept)) c.requires.covered

pub returns-in-Done-clause-changed : goal.returns-in-Done-clause-changed
returns-in-Done-clause-changed g c =
    let turns = c.turns.invariant.turns in
    call_done any_pseudokey c.args.ward.now c.turns.ward c.hop_hashed.new.self turns.splits c.named_page-at.result (Put c.args.key.now c.args.value.now) c.in_ok-reply.field-0 c.in-Done.reply
    turns.run c.in-Done.is c.in_ok-reply.ensures.hop c.in_ok-reply.ensures.leaves

pub returns-in-Done-clause-needed : goal.returns-in-Done-clause-needed
returns-in-Done-clause-needed g c is were =
    let turns = c.turns.invariant.turns in
    let changed = call_done any_pseudokey c.args.ward.now c.turns.ward c.hop_hashed.new.self turns.splits c.named_page-at.result (Put c.args.key.now c.args.value.now) c.in_ok-reply.field-0 c.in-Done.reply
    turns.run c.in-Done.is c.in_ok-reply.ensures.hop c.in_ok-reply.ensures.leaves in
    done_needed c.args.ward.now c.turns.ward c.hop_hashed.new.self c.args.key.now c.args.value.now turns.splits c.named_page-at.result c.in_ok-reply.field-0 c.in-Done.reply
    turns.run c.in-Done.is c.in_ok-reply.ensures.leaves changed is (c.turns.invariant.needed were)

pub unreachable-requires : goal.unreachable-requires
unreachable-requires g c =
    let call = Put c.args.key.now c.args.value.now in
    let ward = c.turns.ward in
    let at = c.named_page-at.result in
    let turns = c.turns.invariant.turns in
    let kept = splits_keep c.args.ward.now turns.splits ward turns.run in
    let hashed = c.requires.hashed ∙ ap (λ keyer. any_pseudokey keyer c.args.key.now) (sym kept.keyer) in
    let home = c.named_page-at.ensures.home in
    let sound = c.named_page-at.ensures.sound in
    elim c.in-Moved.is [
      | inl moved ↦
          never_moved any_pseudokey ward c.args.pseudokey sound at home c.ranges.pseudokey.fits call hashed moved.0 (subst (HopOf ward.cap (any_pseudokey ward.keyer) ward.pages at call) moved.1 c.in_ok-reply.ensures.hop)
      | inr stray ↦
          never_stray any_pseudokey ward c.args.pseudokey sound at home c.ranges.pseudokey.fits call hashed (subst (HopOf ward.cap (any_pseudokey ward.keyer) ward.pages at call) stray c.in_ok-reply.ensures.hop)
    ]

pub turns-init : goal.turns-init
turns-init g c = record {
  turns = record { splits = []; run = refl; deep = λ number prefix link records there begins. omega arith; few = omega arith };
  needed = begun_with c.args.ward.now c.args.key.now c.args.value.now;
}

pub turns-preserved : goal.turns-preserved
turns-preserved g c =
    let call = Put c.args.key.now c.args.value.now in
    let ward = c.turns.ward in
    let at = c.named_page-at.result in
    let turns = c.turns.invariant.turns in
    let same = left_same any_pseudokey ward c.hop_hashed.new.self at call c.in_ok-reply.field-0 c.in-MustSplit.is c.in_ok-reply.ensures.leaves in
    let home = full_home any_pseudokey ward at call c.in_ok-reply.field-0 c.in-MustSplit.is c.in_ok-reply.ensures.hop in
    let kept = splits_keep c.args.ward.now turns.splits ward turns.run in
    let hashed = c.requires.hashed ∙ ap (λ keyer. any_pseudokey keyer c.args.key.now) (sym kept.keyer) in
    let sound = c.named_page-at.ensures.sound in
    let own_home = subst (λ k. IsFullHome ward k at) (sym hashed) home in
    let split = subst (λ w. IsSplitAway w at c.split_away.new.ward) same c.in_ok-split_away-in-MustSplit.ensures in
    let none = absent ward at call c.in_ok-reply.field-0 c.in-MustSplit.is c.in_ok-reply.ensures.hop in
    record {
      turns = turn_over any_pseudokey c.args.ward.now c.args.pseudokey c.turns.turn ward at c.split_away.new.ward turns sound own_home split;
      needed = λ were. turn_needed c.args.ward.now ward c.split_away.new.ward c.args.key.now c.args.value.now turns.splits at c.args.pseudokey turns.run sound hashed none own_home split (c.turns.invariant.needed were);
    }
