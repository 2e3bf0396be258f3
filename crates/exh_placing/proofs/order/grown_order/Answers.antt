use Rattle.std.proofs.Common.{◌≡◌, ℕ, ◌<◌, ◌++◌, List, length, get_or, append_assoc, sym, ap, ◌∙◌, subst, arith}
use Rattle.std.specs.List.{flat_map, range_with_len}
use Rattle.exh_placing.specs.declared.page_at.PageAt.{PageAt}
use Rattle.exh_placing.specs.Order.{BeginsWithFirsts, IsOrderOf, own_in, pages_between, with_others}
use Rattle.exh_placing.proofs.Orders.{firsts_kept, flat_more, others_ordered}
use Rattle.exh_placing.proofs.order.grown_order.Goals as goal

pub push_pages-requires : goal.push_pages-requires
push_pages-requires c =
    let ward = c.loop-ward.ward in
    let few : ward < 16 = omega (arith, c.requires.few) in
    omega (arith, c.counts_of-olds.ensures.each ward few, c.requires.within ward)

pub loop-ward-preserved : goal.loop-ward-preserved
loop-ward-preserved c =
    let placed = c.args.placed.now in
    let counts = c.args.counts.now in
    let ward = c.loop-ward.ward in
    let others = λ (ward : ℕ). pages_between ward (own_in placed ward) (get_or counts ward 0) in
    let front = flat_map others (range_with_len 0 ward) in
    let few : ward < 16 = omega (arith, c.requires.few) in
    c.in_ok-push_pages.ensures ∙ ap (λ (order : List PageAt). order ++ pages_between ward (get_or c.counts_of-olds.result ward 0) (get_or counts ward 0)) c.loop-ward.invariant
    ∙ ap (λ (n : ℕ). (placed ++ front) ++ pages_between ward n (get_or counts ward 0)) (c.counts_of-olds.ensures.each ward few) ∙ append_assoc placed front (others ward)
    ∙ ap (λ (rest : List PageAt). placed ++ rest) (sym (flat_more others ward))

pub returns-clause-order : goal.returns-clause-order
returns-clause-order c =
    let placed = c.args.placed.now in
    let counts = c.args.counts.now in
    let others = λ (ward : ℕ). pages_between ward (own_in placed ward) (get_or counts ward 0) in
    let end : c.loop-ward.ward ≡ length counts = omega arith in
    let whole : c.loop-ward.order.items ≡ with_others counts placed = c.loop-ward.invariant ∙ ap (λ (n : ℕ). placed ++ flat_map others (range_with_len 0 n)) end in
    subst (IsOrderOf counts) (sym whole) (others_ordered counts placed c.requires.numbered c.requires.within)

pub returns-clause-firsts : goal.returns-clause-firsts
returns-clause-firsts c = λ wards firsts.
    subst (BeginsWithFirsts wards) (sym c.loop-ward.invariant) (firsts_kept wards c.args.placed.now _ firsts)
