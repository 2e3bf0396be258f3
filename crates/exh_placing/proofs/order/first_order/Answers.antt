use Rattle.std.proofs.Common.{length, sym, ap, ◌∙◌, subst, arith, Result, Ok, Err, IfOk}
use Rattle.std.proofs.lemmas.List.FromFn.{length-map-range_with_len}
use Rattle.exh_placing.specs.Order.{BeginsWithFirsts, IsNumbered, IsWithin, page_at}
use Rattle.exh_placing.proofs.Orders.{firsts_begin, firsts_numbered, firsts_within}
use Rattle.exh_placing.proofs.order.first_order.Goals as goal

pub grown_order-requires-clause-short : goal.grown_order-requires-clause-short
grown_order-requires-clause-short c =
    let wards = length c.args.counts.now in
    let is = ap length (c.deref.ensures.value ∙ c.in_ok-firsts.ensures) ∙ length-map-range_with_len (λ ward. page_at ward 0) 0 wards in
    omega (arith, is, c.requires.few)

pub grown_order-requires-clause-numbered : goal.grown_order-requires-clause-numbered
grown_order-requires-clause-numbered c = subst IsNumbered (sym (c.deref.ensures.value ∙ c.in_ok-firsts.ensures)) (firsts_numbered (length c.args.counts.now))

pub grown_order-requires-clause-within : goal.grown_order-requires-clause-within
grown_order-requires-clause-within c = subst (IsWithin c.args.counts.now) (sym (c.deref.ensures.value ∙ c.in_ok-firsts.ensures)) (firsts_within c.args.counts.now c.requires.some)

if_ok : {T E : Type 0} {P Q : T → Type 0} (r : Result T E) → ((x : T) → P x → Q x) → IfOk r P → IfOk r Q
if_ok (Ok x) step p = step x p
if_ok (Err e) step p = p

pub returns-clause-firsts : goal.returns-clause-firsts
returns-clause-firsts c =
    let wards = length c.args.counts.now in
    let begins : BeginsWithFirsts wards c.deref.result.now = subst (BeginsWithFirsts wards) (sym (c.deref.ensures.value ∙ c.in_ok-firsts.ensures)) (firsts_begin wards) in
    if_ok c.grown_order.result (λ order firsts. firsts wards begins) c.grown_order.ensures.firsts
