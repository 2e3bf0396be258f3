use Rattle.std.proofs.Common.{sym, ap, ◌∙◌, subst, ap₂}
use Rattle.exh_file.specs.Opened.{OpenedState, in_file, settings_in}
use Rattle.exh_file.specs.FileChange.{ChangesOneMap, IsChangedIn}
use Rattle.exh_file.proofs.file_change.change_file.Goals as goal

pub returns-in-Ok-clause-one : goal.returns-in-Ok-clause-one
returns-in-Ok-clause-one g c =
    let was = ap₂ in_file c.settings-settings.ensures c.into_wards-wards.ensures.wards in
    subst (ChangesOneMap c.args.file c.args.call.now c.in-Ok.reply) (sym c.new.ensures)
    (subst (λ (file : OpenedState). ChangesOneMap file c.args.call.now c.in-Ok.reply (in_file c.settings-settings.result c.change_in.new.wards.items)) was c.in-Ok.ensures.one)

pub returns-in-Ok-clause-changed : goal.returns-in-Ok-clause-changed
returns-in-Ok-clause-changed g c =
    let was = ap₂ in_file c.settings-settings.ensures c.into_wards-wards.ensures.wards in
    subst (IsChangedIn c.args.file c.args.call.now c.in-Ok.reply) (sym c.new.ensures)
    (subst (λ (file : OpenedState). IsChangedIn file c.args.call.now c.in-Ok.reply (in_file c.settings-settings.result c.change_in.new.wards.items)) was c.in-Ok.ensures.changed)

pub returns-in-Ok-clause-settings : goal.returns-in-Ok-clause-settings
returns-in-Ok-clause-settings g c = ap settings_in c.new.ensures ∙ c.settings-settings.ensures
