use Rattle.std.proofs.Common.{slice_get, Some, ◌≡◌, ◌+◌, ◌∙◌, sym, subst, ap, arith, List}
use Rattle.std.proofs.lemmas.Option.{slice_get_within}
use Rattle.exh_ward.specs.WardState.{WardState}
use Rattle.exh_world.specs.World.{WorldState}
use Rattle.exh_world.proofs.MostFailures.{HasMost, none_most, most_still, most_here}
use Rattle.exh_world.proofs.world.World.most_failures.Goals.{then-most-failures, else-most-failures}
use Rattle.exh_world.proofs.world.World.most_failures.Goals as goal

pub loop-ward-init : goal.loop-ward-init
loop-ward-init g c = none_most g.P.Pages.failures c.deref-ward-items.result.now

pub loop-ward-preserved : goal.loop-ward-preserved
loop-ward-preserved g c =
    let wards = c.deref-ward-items.result.now in
    let at = c.loop-ward.ward-index in
    let most = c.loop-ward.most in
    let ward = c.ward-item.result in
    let told = c.failures-failures.ensures in
    let is = c.if-most-failures in
    elim is.branch [
      | then-most-failures w ↦
          subst (HasMost g.P.Pages.failures wards (at + 1)) (sym (w.most-is ∙ told.count))
          (most_here g.P.Pages.failures wards at most c.loop-ward.invariant ward c.loop-ward-test.true c.ward-item.is (omega (arith, w.if-most-failures, told.count)) told.store.0 told.store.1)
      | else-most-failures w ↦
          subst (HasMost g.P.Pages.failures wards (at + 1)) (sym w.most-is)
          (most_still g.P.Pages.failures wards at most c.loop-ward.invariant ward c.loop-ward-test.true c.ward-item.is (omega (arith, w.if-most-failures, told.count)))
    ]

pub returns-clause-most : goal.returns-clause-most
returns-clause-most g c number ward there =
    let wards = ap (λ (w : WorldState g.row.K.Denot). w.wards) c.self.view_is in
    let own : slice_get c.deref-ward-items.result.now number ≡ Some ward =
    subst (λ (ws : List (WardState g.row.K.Denot)). slice_get ws number ≡ Some ward) (sym (c.deref-ward-items.ensures.value ∙ wards)) there in
    let within = slice_get_within c.deref-ward-items.result.now number ward own in
    c.loop-ward.invariant.above number ward (omega (arith, within, c.loop-ward-test.false)) own

pub returns-clause-store : goal.returns-clause-store
returns-clause-store g c = c.loop-ward.invariant.counted
