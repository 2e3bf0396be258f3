use Rattle.std.proofs.Common.{sym, ap, ◌∙◌, subst}
use Rattle.exh_keyer.specs.declared.any_keyer.AnyKeyer.{AnyKeyer}
use Rattle.exh_page.specs.declared.file_settings.FileSettings.{FileSettings}
use Rattle.exh_load.specs.Opened.{AreWardsOf, in_file}
use Rattle.exh_script.proofs.OpenedLemmas.{left_is, wards_of}
use Rattle.exh_script.proofs.beginning.leave.Goals as goal

pub new-requires : goal.new-requires
new-requires g c =
    subst (λ (settings : FileSettings AnyKeyer). AreWardsOf (in_file settings c.into_wards.result.items)) (sym c.file_settings.ensures)
    (wards_of c.args.file.now c.args.world c.requires.settings c.into_wards.result.items c.requires.some c.requires.most c.requires.bits c.into_wards.ensures.count (c.into_wards.ensures.each c.args.file.now.copies))

pub returns : goal.returns
returns g c =
    left_is c.args.file.now c.args.world c.requires.settings c.new.result c.into_wards.result.items
    (c.new.ensures ∙ ap (λ (settings : FileSettings AnyKeyer). in_file settings c.into_wards.result.items) c.file_settings.ensures) c.into_wards.ensures.wards
