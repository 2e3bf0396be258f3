use Rattle.std.proofs.Common.{◌≡◌, ℕ, ◌-◌, ◌++◌, ◌∷◌, [], List, map, append_assoc, append-nil, sym, ap, ◌∙◌, arith}
use Rattle.std.specs.List.{range_with_len}
use Rattle.exh_placing.specs.declared.page_at.PageAt.{PageAt}
use Rattle.exh_placing.specs.Order.{page_at, pages_between}
use Rattle.exh_placing.proofs.Orders.{between_more}
use Rattle.exh_placing.proofs.order.push_pages.Goals as goal

pub loop-number-init : goal.loop-number-init
loop-number-init c =
    let none : c.args.from - c.args.from ≡ 0 = omega arith in
    let order = c.args.order.now.items in
    sym (ap (λ (n : ℕ). order ++ map (page_at c.args.ward) (range_with_len c.args.from n)) none ∙ append-nil order)

pub loop-number-preserved : goal.loop-number-preserved
loop-number-preserved c =
    let order = c.args.order.now.items in
    let number = c.loop-number.number in
    let page = page_at c.args.ward number in
    c.in_ok-push.ensures.items ∙ ap (λ (order : List PageAt). order ++ page ∷ []) c.loop-number.invariant ∙ append_assoc order (pages_between c.args.ward c.args.from number) (page ∷ [])
    ∙ ap (λ (more : List PageAt). order ++ more) (sym (between_more c.args.ward c.args.from number c.loop-number.auto.number))

pub returns : goal.returns
returns c =
    let end : c.loop-number.number ≡ c.args.to = omega arith in
    c.loop-number.invariant ∙ ap (λ (n : ℕ). c.args.order.now.items ++ pages_between c.args.ward c.args.from n) end
