use Rattle.std.proofs.Common.{◌≡◌, length, true, sym, ap, ◌∙◌, subst}
use Rattle.std.proofs.lemmas.Result.{IfOk-from_err}
use Rattle.exh_world.specs.NewWorld.{AreWardsFor, settings_of}
use Rattle.exh_script.specs.OpenedScript.{is_of_file}
use Rattle.exh_script.specs.Text.{ScriptWorld}
use Rattle.exh_script.proofs.OpenedLemmas.{begun_of_file, begun_of_other, one_each, wards_for}
use Rattle.exh_script.proofs.beginning.begin_over.Goals as goal

pub from_wards-requires-clause-each : goal.from_wards-requires-clause-each
from_wards-requires-clause-each g c =
    let own : is_of_file c.args.opened c.args.file.now ≡ true = sym c.is_of_file.ensures ∙ c.if-not-is_of_file.false in
    subst (AreWardsFor c.args.file.now) (sym c.into_wards.ensures.wards) (wards_for c.args.opened c.args.file.now own c.into_wards.ensures.each)

pub from_wards-requires-clause-count : goal.from_wards-requires-clause-count
from_wards-requires-clause-count g c =
    ap length c.into_wards.ensures.wards ∙ one_each c.args.opened c.args.file.now (sym c.is_of_file.ensures ∙ c.if-not-is_of_file.false) c.into_wards.ensures.each

pub returns-clause-begun : goal.returns-clause-begun
returns-clause-begun g c =
    begun_of_file c.args.opened c.args.file.now (sym c.is_of_file.ensures ∙ c.if-not-is_of_file.false)
    c.in_ok-from_wards.field-0 c.into_wards.result.items c.in_ok-from_wards.ensures.world c.into_wards.ensures.wards

pub returns-clause-sound : goal.returns-clause-sound
returns-clause-sound g c = c.in_ok-from_wards.ensures.sound

pub returns-clause-settings : goal.returns-clause-settings
returns-clause-settings g c = ap (λ (world : ScriptWorld). settings_of world c.args.file.now.copies) c.in_ok-from_wards.ensures.world

pub returns-in_err-from_wards-clause-begun : goal.returns-in_err-from_wards-clause-begun
returns-in_err-from_wards-clause-begun g c = IfOk-from_err c.from_residual.result _ c.from_residual.ensures.0

pub returns-in_err-from_wards-clause-sound : goal.returns-in_err-from_wards-clause-sound
returns-in_err-from_wards-clause-sound g c = IfOk-from_err c.from_residual.result _ c.from_residual.ensures.0

pub returns-in_err-from_wards-clause-settings : goal.returns-in_err-from_wards-clause-settings
returns-in_err-from_wards-clause-settings g c = IfOk-from_err c.from_residual.result _ c.from_residual.ensures.0

pub returns-then-not-is_of_file-clause-begun : goal.returns-then-not-is_of_file-clause-begun
returns-then-not-is_of_file-clause-begun g c = begun_of_other c.args.opened c.args.file.now (sym c.is_of_file.ensures ∙ c.if-not-is_of_file.true)
