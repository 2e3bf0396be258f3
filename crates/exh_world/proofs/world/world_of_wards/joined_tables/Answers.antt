use Rattle.std.proofs.Common.{subst, rules, arith, ◌∙◌, ap}
use Rattle.std.proofs.lemmas.List.{take_all}
use Rattle.std.proofs.lemmas.Result.{IfOk-from_err}
use Rattle.exh_array.specs.Pointers.{HasArrayOf}
use Rattle.exh_world.specs.NewWorld.{tables_joined}
use Rattle.exh_world.proofs.WorldOfWards.{none_joined, one_more_joined, all_sound}
use Rattle.exh_world.proofs.world.world_of_wards.joined_tables.Goals as goal

pub loop-ward-init : goal.loop-ward-init
loop-ward-init g c = record {
  joined = none_joined g.K.Keyer.pseudokey_of c.args.wards.now c.in_ok-directory.directory.table c.in_ok-directory.ensures.table;
  array = c.in_ok-directory.ensures.array;
}

pub loop-ward-preserved : goal.loop-ward-preserved
loop-ward-preserved g c = record {
  joined = one_more_joined g.K.Keyer.pseudokey_of c.args.wards.now c.loop-ward.ward-index c.ward-item.result c.loop-ward.directory.table c.join_in.new.self.table c.loop-ward.invariant.joined
      c.loop-ward-test.true c.ward-item.is c.table.ensures.sound (search rules);
  array = subst (λ n. HasArrayOf n c.join_in.new.self) c.loop-ward.invariant.array.bits c.join_in.ensures.array;
}

pub returns-clause-sound : goal.returns-clause-sound
returns-clause-sound g c = all_sound g.K.Keyer.pseudokey_of c.args.wards.now c.loop-ward.ward-index c.loop-ward.directory.table c.loop-ward.invariant.joined (omega (arith, c.loop-ward-test.false))

pub new-requires : goal.new-requires
new-requires g c = omega (arith, c.requires)

pub returns-in_err-directory-clause-table : goal.returns-in_err-directory-clause-table
returns-in_err-directory-clause-table g c = IfOk-from_err c.from_residual.result _ c.from_residual.ensures.0

pub returns-in_err-directory-clause-array : goal.returns-in_err-directory-clause-array
returns-in_err-directory-clause-array g c = IfOk-from_err c.from_residual.result _ c.from_residual.ensures.0

pub returns-in_err-directory-clause-sound : goal.returns-in_err-directory-clause-sound
returns-in_err-directory-clause-sound g c = IfOk-from_err c.from_residual.result _ c.from_residual.ensures.0

pub offset_bounds-wards-ward-index : goal.offset_bounds-wards-ward-index
offset_bounds-wards-ward-index g c = c.loop-ward.auto.ward-index-end

pub returns-in_err-join_in-clause-table : goal.returns-in_err-join_in-clause-table
returns-in_err-join_in-clause-table g c = IfOk-from_err c.from_residual-in_err-join_in.result _ c.from_residual-in_err-join_in.ensures.0

pub returns-in_err-join_in-clause-array : goal.returns-in_err-join_in-clause-array
returns-in_err-join_in-clause-array g c = IfOk-from_err c.from_residual-in_err-join_in.result _ c.from_residual-in_err-join_in.ensures.0

pub returns-in_err-join_in-clause-sound : goal.returns-in_err-join_in-clause-sound
returns-in_err-join_in-clause-sound g c = IfOk-from_err c.from_residual-in_err-join_in.result _ c.from_residual-in_err-join_in.ensures.0

pub returns-clause-table : goal.returns-clause-table
returns-clause-table g c = c.loop-ward.invariant.joined.joined ∙ ap tables_joined (take_all c.loop-ward.ward-index c.args.wards.now c.loop-ward-test.false)

pub returns-clause-array : goal.returns-clause-array
returns-clause-array g c = c.loop-ward.invariant.array
