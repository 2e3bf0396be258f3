use Rattle.std.proofs.Common.{◌≡◌, refl, ◌∙◌, subst, arith, rules}
use Rattle.exh_ward.specs.WardFault.{PageRefused}
use Rattle.exh_ward.proofs.FirstSteps.{pages_same, pages_unchanged, head_before, linked_before, forwarded_few, refused_from, first_found, goes_forward}
use Rattle.exh_ward.proofs.ward.Ward.find_live.Goals as goal

pub returns-in_err-prefix-clause-refused : goal.returns-in_err-prefix-clause-refused
returns-in_err-prefix-clause-refused g c =
    let pages = c.args.self.now.pages in
    let before = pages_same c.args.self.now c.forwards.self c.forwards.invariant.same in
    let now : c.head.new.self.pages ≡ pages = pages_unchanged c.forwards.self c.head.new.self c.in_err-prefix.ensures.err ∙ before in
    let linked = linked_before _ c.head.new.self pages c.in_err-prefix.ensures.sound now in
    let refused : PageRefused pages c.forwards.at c.in_err-prefix.field-0.0 = subst (λ pages. PageRefused pages c.forwards.at c.in_err-prefix.field-0.0) before c.in_err-prefix.ensures.refused in
    let fact : PageRefused pages c.args.page c.in_err-prefix.field-0.0 = refused_from _ pages linked c.args.page c.forwards.forwards c.forwards.at c.forwards.invariant.way c.in_err-prefix.field-0.0 refused in
    search rules

pub returns-in-Live-clause-first : goal.returns-in-Live-clause-first
returns-in-Live-clause-first g c =
    first_found c.args.self.now.pages c.args.page c.forwards.forwards c.forwards.at c.low.result c.in-Live.count c.in-Live.prefix c.in-Live.right c.in_ok-prefix.field-0 c.forwards.invariant.way
    (head_before c.args.self.now c.forwards.self c.forwards.invariant.same c.forwards.at c.in_ok-prefix.field-0 c.in_ok-prefix.ensures.head) c.in-Live.is c.low.ensures

pub returns-in-Live-clause-few : goal.returns-in-Live-clause-few
returns-in-Live-clause-few g c =
    let same = pages_same c.args.self.now c.head.new.self (c.in_ok-prefix.ensures.ok ∙ c.forwards.invariant.same) in
    let linked = linked_before _ c.head.new.self c.args.self.now.pages c.in_ok-prefix.ensures.sound same in
    let few = forwarded_few _ c.args.self.now.pages linked c.args.page c.forwards.forwards c.forwards.at c.forwards.invariant.way in
    omega (arith, few)

pub overflow_add-forwards : goal.overflow_add-forwards
overflow_add-forwards g c =
    let same = pages_same c.args.self.now c.head.new.self (c.in_ok-prefix.ensures.ok ∙ c.forwards.invariant.same) in
    let linked = linked_before _ c.head.new.self c.args.self.now.pages c.in_ok-prefix.ensures.sound same in
    let few = forwarded_few _ c.args.self.now.pages linked c.args.page c.forwards.forwards c.forwards.at c.forwards.invariant.way in
    omega (arith, few)

pub forwards-smaller : goal.forwards-smaller
forwards-smaller g c =
    let same = pages_same c.args.self.now c.head.new.self (c.in_ok-prefix.ensures.ok ∙ c.forwards.invariant.same) in
    let linked = linked_before _ c.head.new.self c.args.self.now.pages c.in_ok-prefix.ensures.sound same in
    let few = forwarded_few _ c.args.self.now.pages linked c.args.page c.forwards.forwards c.forwards.at c.forwards.invariant.way in
    omega (arith, few)

pub forwards-preserved : goal.forwards-preserved
forwards-preserved g c = record {
  same = c.in_ok-prefix.ensures.ok ∙ c.forwards.invariant.same;
  start = refl;
  way = goes_forward c.args.self.now.pages c.args.page c.forwards.forwards c.forwards.at c.in-Forward.low c.in-Forward.target c.in_ok-prefix.field-0 c.forwards.invariant.way
      (head_before c.args.self.now c.forwards.self c.forwards.invariant.same c.forwards.at c.in_ok-prefix.field-0 c.in_ok-prefix.ensures.head) c.in-Forward.is;
}
