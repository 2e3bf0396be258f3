use Rattle.std.proofs.Common.{◌++◌, ◌∷◌, [], List, sym, ap, ◌∙◌}
use Rattle.exh_placing.specs.declared.page_at.PageAt.{PageAt}
use Rattle.exh_placing.specs.Order.{page_at}
use Rattle.exh_placing.proofs.Orders.{first_more}
use Rattle.exh_placing.proofs.order.pages_0.Goals as goal

pub loop-ward-preserved : goal.loop-ward-preserved
loop-ward-preserved c =
    c.in_ok-push.ensures.items ∙ ap (λ (order : List PageAt). order ++ page_at c.loop-ward.ward 0 ∷ []) c.loop-ward.invariant ∙ sym (first_more c.loop-ward.ward)
