use Rattle.std.proofs.Common.{◌+◌, ◌*◌, ◌≤◌, length, vec_len, refl, sym, ap, ◌∙◌, subst}
use Rattle.std.proofs.lemmas.List.{length_push}
use Rattle.std.proofs.lemmas.List.Sums.{sum_by_push}
use Rattle.exh_ward.specs.WardState.{WardState}
use Rattle.exh_live.specs.Closing.{entries_made}
use Rattle.exh_live.specs.WardParts.{parts_of_number, parts_of_wards, ward_parts}
use Rattle.exh_live.proofs.Counts.{all_done, none_back, none_yet, nothing_more, one_done, one_fewer, room_for_one, sum_back}
use Rattle.exh_live.proofs.Parts.{none_back_yet, one_ward_back}
use Rattle.exh_live.proofs.close.unlock.Goals as goal

pub loop-lock-init : goal.loop-lock-init
loop-lock-init g c =
    let gives = c.into_iter-lock-iterator.ensures.into_iter_gives in
    let items = ap length gives.0 in
    let whole = c.args.locks.ok.0 in
    let none = ap length c.requires.empty in
    record {
      len = gives.1 ∙ whole ∙ sym items;
      count = none_yet none items whole;
      room = c.requires.room;
      answers = none_back_yet c.args.answers.now.parts (ap parts_of_wards c.requires.empty) none;
      entries = sym (nothing_more c.args.entries.now.parts (ap parts_of_wards c.requires.empty));
      amount = sym (nothing_more c.args.entries.now.amount (ap entries_made c.requires.empty));
      none = refl;
    }

pub push_reserved-requires : goal.push_reserved-requires
push_reserved-requires g c = room_for_one c.loop-lock.wards.ok.0 c.loop-lock.invariant.count (ap length c.in-Some.ensures.steps.0) c.loop-lock.invariant.room

pub loop-lock-preserved : goal.loop-lock-preserved
loop-lock-preserved g c =
    let steps = c.in-Some.ensures.steps in
    let was = c.loop-lock.invariant in
    let wards = c.loop-lock.wards.items in
    let ward = c.into_parts-ward.result.0 in
    let pushed = c.push_reserved.ensures.items in
    let short = ap length steps.0 in
    let longer = ap length pushed ∙ length_push wards ward in
    let is = c.into_parts-ward.ensures in
    let made = ap entries_made pushed ∙ sum_by_push (λ (one : WardState g.row.K.Denot). length one.journal) wards ward in
    let parts = ap parts_of_wards pushed ∙ sum_by_push (λ (one : WardState g.row.K.Denot). parts_of_number one.number) wards ward in
    record {
      len = one_fewer was.len steps.1 short;
      count = one_done (length wards) was.count short longer;
      room = subst (λ room. vec_len c.args.locks ≤ room) (sym c.push_reserved.ensures.capacity) was.room;
      answers = one_ward_back c.args.answers.now.parts (length wards) (parts_of_wards wards) _ _ _ _ _ _ was.answers c.merge-in-loop-lock.ensures.parts is.numbered.1 parts longer;
      entries = sum_back c.args.entries.now.parts (parts_of_wards wards) was.entries c.merge.ensures.parts is.numbered.0 parts;
      amount = sum_back c.args.entries.now.amount (entries_made wards) was.amount c.merge.ensures.amount is.counted made;
      none = none_back was.none c.merge-in-loop-lock.ensures.amount is.spare;
    }

pub returns-clause-count : goal.returns-clause-count
returns-clause-count g c = all_done c.loop-lock.invariant.count c.loop-lock.invariant.len c.in-None.ensures.steps.0

pub returns-clause-answers : goal.returns-clause-answers
returns-clause-answers g c =
    let all = all_done c.loop-lock.invariant.count c.loop-lock.invariant.len c.in-None.ensures.steps.0 in
    c.loop-lock.invariant.answers ∙ ap (λ count. c.args.answers.now.parts + count * ward_parts) all

pub returns-clause-entries : goal.returns-clause-entries
returns-clause-entries g c = c.loop-lock.invariant.entries

pub returns-clause-amount : goal.returns-clause-amount
returns-clause-amount g c = c.loop-lock.invariant.amount

pub returns-clause-none : goal.returns-clause-none
returns-clause-none g c = c.loop-lock.invariant.none
