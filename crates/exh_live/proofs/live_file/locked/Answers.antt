use Rattle.std.proofs.Common.{◌≡◌, ℕ, suc, ◌+◌, ◌*◌, ◌<◌, ◌≤◌, length, vec_len, sym, ap, ◌∙◌, subst, arith}
use Rattle.std.proofs.lemmas.Result.{IfOk-from_err}
use Rattle.std.specs.Vec.Iter.{into_iter_items}
use Rattle.exh_live.specs.LiveFile.{AreToBeTallied}
use Rattle.exh_live.specs.WardParts.{parts_of_first, ward_parts}
use Rattle.exh_live.proofs.Counts.{all_done, none_yet, one_done, one_fewer}
use Rattle.exh_live.proofs.Parts.{entries_for_ward, no_entries, none_entered, one_entered, one_entry, room_for_ward}
use Rattle.exh_live.proofs.live_file.locked.Goals as goal

below_sixteen : {number locks left fewer wards : ℕ} → number ≡ locks → left ≡ suc fewer → locks + left ≡ wards → wards ≤ 16 → number < 16
below_sixteen is short was few = omega arith

pub loop-ward-init : goal.loop-ward-init
loop-ward-init g c =
    let gives = c.into_iter-ward-iterator.ensures.into_iter_gives in
    let empty = c.new-locks.ensures.len in
    let items = ap length gives.0 in
    let whole = c.args.wards.ok.0 in
    record {
      left = subst (λ first. AreToBeTallied g.K.Keyer.pseudokey_of g.F.Identity.hashing first (into_iter_items c.into_iter-ward-iterator.result)) (sym empty) (subst (AreToBeTallied g.K.Keyer.pseudokey_of g.F.Identity.hashing 0) (sym gives.0) c.requires.wards);
      len = gives.1 ∙ whole ∙ sym items;
      count = none_yet empty items whole;
      answers = none_entered c.args.answers.now.parts empty;
      entries = no_entries c.args.entries.now.parts empty;
      none = (c.requires.answers.1, c.requires.entries.1);
    }

pub lock_of-requires-clause-empty : goal.lock_of-requires-clause-empty
lock_of-requires-clause-empty g c =
    let steps = c.in-Some.ensures.steps.0 in
    (subst (AreToBeTallied g.K.Keyer.pseudokey_of g.F.Identity.hashing (vec_len c.loop-ward.locks)) steps c.loop-ward.invariant.left).0

pub lock_of-requires-clause-hashed : goal.lock_of-requires-clause-hashed
lock_of-requires-clause-hashed g c =
    let steps = c.in-Some.ensures.steps.0 in
    (subst (AreToBeTallied g.K.Keyer.pseudokey_of g.F.Identity.hashing (vec_len c.loop-ward.locks)) steps c.loop-ward.invariant.left).1

pub lock_of-requires-clause-number : goal.lock_of-requires-clause-number
lock_of-requires-clause-number g c =
    let steps = c.in-Some.ensures.steps.0 in
    let is = (subst (AreToBeTallied g.K.Keyer.pseudokey_of g.F.Identity.hashing (vec_len c.loop-ward.locks)) steps c.loop-ward.invariant.left).2 in
    below_sixteen is (ap length steps) c.loop-ward.invariant.count c.requires.count

pub lock_of-requires-clause-answers : goal.lock_of-requires-clause-answers
lock_of-requires-clause-answers g c =
    let steps = c.in-Some.ensures.steps.0 in
    let is = (subst (AreToBeTallied g.K.Keyer.pseudokey_of g.F.Identity.hashing (vec_len c.loop-ward.locks)) steps c.loop-ward.invariant.left).2 in
    (room_for_ward (vec_len c.loop-ward.locks) _ _ _ _ _ _ c.loop-ward.invariant.count (ap length steps) c.requires.count c.requires.answers.0 c.loop-ward.invariant.answers is, c.loop-ward.invariant.none.0)

pub lock_of-requires-clause-entries : goal.lock_of-requires-clause-entries
lock_of-requires-clause-entries g c =
    let steps = c.in-Some.ensures.steps.0 in
    let is = (subst (AreToBeTallied g.K.Keyer.pseudokey_of g.F.Identity.hashing (vec_len c.loop-ward.locks)) steps c.loop-ward.invariant.left).2 in
    (entries_for_ward (vec_len c.loop-ward.locks) _ _ _ _ _ _ c.loop-ward.invariant.count (ap length steps) c.requires.entries.0 c.loop-ward.invariant.entries is, c.loop-ward.invariant.none.1)

pub loop-ward-preserved : goal.loop-ward-preserved
loop-ward-preserved g c =
    let steps = c.in-Some.ensures.steps in
    let was = c.loop-ward.invariant in
    let locks = vec_len c.loop-ward.locks in
    let short = ap length steps.0 in
    let ward = subst (AreToBeTallied g.K.Keyer.pseudokey_of g.F.Identity.hashing locks) steps.0 was.left in
    let longer : vec_len c.push.new.self ≡ vec_len c.loop-ward.locks + 1 = c.in_ok-push.ensures.len in
    record {
      left = subst (λ first. AreToBeTallied g.K.Keyer.pseudokey_of g.F.Identity.hashing first (into_iter_items c.next.new.self)) (sym longer) ward.3;
      len = one_fewer was.len steps.1 short;
      count = one_done locks was.count short longer;
      answers = one_entered locks _ _ _ _ _ was.answers c.lock_of.ensures.answers ward.2 longer;
      entries = one_entry locks _ _ _ _ _ was.entries c.lock_of.ensures.entries ward.2 longer;
      none = c.lock_of.ensures.none;
    }

pub returns-in_err-push-clause-count : goal.returns-in_err-push-clause-count
returns-in_err-push-clause-count g c = IfOk-from_err c.from_residual.result _ c.from_residual.ensures.0

pub returns-clause-count : goal.returns-clause-count
returns-clause-count g c = all_done c.loop-ward.invariant.count c.loop-ward.invariant.len c.in-None.ensures.steps.0

pub returns-clause-answers : goal.returns-clause-answers
returns-clause-answers g c =
    let all = all_done c.loop-ward.invariant.count c.loop-ward.invariant.len c.in-None.ensures.steps.0 in
    subst (λ count. c.loop-ward.answers.parts + count * ward_parts ≡ c.args.answers.now.parts + parts_of_first count) all c.loop-ward.invariant.answers

pub returns-clause-entries : goal.returns-clause-entries
returns-clause-entries g c =
    let all = all_done c.loop-ward.invariant.count c.loop-ward.invariant.len c.in-None.ensures.steps.0 in
    subst (λ count. c.loop-ward.entries.parts + parts_of_first count ≡ c.args.entries.now.parts) all c.loop-ward.invariant.entries

pub returns-in_err-push-clause-answers : goal.returns-in_err-push-clause-answers
returns-in_err-push-clause-answers g c = IfOk-from_err c.from_residual.result _ c.from_residual.ensures.0

pub returns-in_err-push-clause-entries : goal.returns-in_err-push-clause-entries
returns-in_err-push-clause-entries g c = IfOk-from_err c.from_residual.result _ c.from_residual.ensures.0
