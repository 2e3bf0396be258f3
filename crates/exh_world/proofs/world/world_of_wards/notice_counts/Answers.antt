use Rattle.std.proofs.Common.{rules, arith, ℕ, ◌∙◌, ap, length, map}
use Rattle.std.proofs.lemmas.List.{take_all}
use Rattle.std.proofs.lemmas.Result.{IfOk-from_err}
use Rattle.exh_ward.specs.WardState.{WardState}
use Rattle.exh_world.proofs.WorldOfWards.{one_more_counted}
use Rattle.exh_world.proofs.world.world_of_wards.notice_counts.Goals as goal

pub loop-ward-preserved : goal.loop-ward-preserved
loop-ward-preserved g c = record {
  within = omega (arith, c.loop-ward-test.true);
  counts = one_more_counted g.K.Keyer.pseudokey_of c.args.wards.now c.loop-ward.ward-index c.ward-item.result c.notices_after.result.now c.loop-ward.counts.items c.push.new.self.items
      c.loop-ward-test.true c.ward-item.is c.notices_after.ensures.sound c.notices_after.ensures.notices c.loop-ward.invariant.counts (search rules);
}

pub loop-ward-init : goal.loop-ward-init
loop-ward-init g c = record { within = omega arith; counts = c.new-counts.ensures.items }

pub offset_bounds-wards-ward-index : goal.offset_bounds-wards-ward-index
offset_bounds-wards-ward-index g c = c.loop-ward.invariant.within

pub returns-in_err-push : goal.returns-in_err-push
returns-in_err-push g c = IfOk-from_err c.from_residual.result _ c.from_residual.ensures.0

pub returns : goal.returns
returns g c =
    let many : WardState g.row.K.Denot → ℕ = λ ward. length ward.notices in
    c.loop-ward.invariant.counts ∙ ap (map many) (take_all c.loop-ward.ward-index c.args.wards.now c.loop-ward-test.false)
