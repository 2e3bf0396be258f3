use Rattle.std.proofs.Common.{◌≡◌, ◌-◌, ◌<◌, ◌≤◌, ◌^◌, List, length, take, ap, ◌∙◌, subst, arith, ◌++◌, ◌∷◌, []}
use Rattle.std.proofs.lemmas.List.{length-map, length-take-le}
use Rattle.std.proofs.Math.Nat.{pow-le-pow_right}
use Rattle.exh_keyer.specs.declared.any_keyer.AnyKeyer.{AnyKeyer}
use Rattle.exh_prefix.specs.declared.prefix.TheConstants.{LIMIT}
use Rattle.exh_page.specs.declared.page.Page.{Page}
use Rattle.exh_ward.specs.WardState.{WardState}
use Rattle.exh_ward.specs.declared.ward_fault.WardFault.TheVariants.{Memory}
use Rattle.exh_legal.specs.Pages.{IsAt}
use Rattle.exh_compact.specs.Reach.{IsWardLeft}
use Rattle.exh_compact.specs.Shape.{shape_of}
use Rattle.exh_compact.specs.declared.page_shape.PageShape.{PageShape}
use Rattle.exh_compact.proofs.Left.{err_is, page_left}
use Rattle.exh_compact.proofs.Shapes.{shapes_on}
use Rattle.exh_compact.proofs.gathering.shapes_in.Goals as goal

pub pages-preserved : goal.pages-preserved
pages-preserved g c =
    let was = c.pages.invariant in
    let page : IsAt c.args.ward.now.pages c.pages.number c.in_ok-page.page = subst (λ (ps : List Page). IsAt ps c.pages.number c.in_ok-page.page) (ap (λ (w : WardState AnyKeyer). w.pages) was.same) c.in_ok-page.ensures.page in
    record {
      within = omega (arith, c.pages-test.true, c.page_count-number-end.ensures.count);
      shapes = shapes_on c.args.ward.now.pages c.pages.number c.in_ok-page.page page was.shapes (c.in_ok-push_shape.ensures ∙ ap (λ (shape : PageShape). c.pages.shapes.items ++ shape ∷ []) c.of.ensures);
      same = c.in_ok-page.ensures.ok ∙ was.same;
    }

pub returns-clause-few : goal.returns-clause-few
returns-clause-few g c =
    let was = c.pages.invariant in
    let count : length c.pages.shapes.items ≡ c.pages.number = ap length was.shapes ∙ length-map (take c.pages.number c.args.ward.now.pages) shape_of ∙ length-take-le c.pages.number c.args.ward.now.pages was.within in
    let most : 2 ^ (LIMIT - c.args.ward.now.ward_bits) ≤ 2 ^ LIMIT = pow-le-pow_right {n = 2} (omega arith) {i = LIMIT - c.args.ward.now.ward_bits} {j = LIMIT} (omega arith) in
    omega (arith, count, most, was.within, c.page_count-number-end.ensures.count, c.page_count-number-end.ensures.limit)

pub returns-in_err-page-clause-err : goal.returns-in_err-page-clause-err
returns-in_err-page-clause-err g c =
    let was = c.pages.invariant in
    let ward = c.pages.ward in
    let fault = c.in_err-page.field-0.0 in
    let within : c.pages.number < length ward.pages = omega (arith, c.pages-test.true, c.page_count-number-end.ensures.count, ap (λ (w : WardState AnyKeyer). length w.pages) was.same) in
    let left = page_left Page ward c.page.new.self c.pages.number fault within c.in_err-page.ensures.refused c.in_err-page.ensures.err c.in_err-page.ensures.failures in
    err_is c.from_residual.result fault (IsWardLeft c.args.ward.now c.page.new.self) c.from_residual.ensures.1
    (subst (λ (old : WardState AnyKeyer). IsWardLeft old c.page.new.self fault) was.same left)

pub returns-in_err-push_shape-clause-err : goal.returns-in_err-push_shape-clause-err
returns-in_err-push_shape-clause-err g c =
    err_is c.from_residual-in_err-push_shape.result Memory (IsWardLeft c.args.ward.now c.page.new.self) c.from_residual-in_err-push_shape.ensures.1
    (c.in_ok-page.ensures.ok ∙ c.pages.invariant.same)
