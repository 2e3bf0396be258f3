use Rattle.std.proofs.Common.{length, subst}
use Rattle.exh_load.specs.Loader.{AreEach, IsDirectoryAt}
use Rattle.exh_load.proofs.Over.{over_file, over_loading, over_wards}
use Rattle.exh_load.proofs.loader.Loader.over.Goals as goal

pub invariant_of-result : goal.invariant_of-result
invariant_of-result g c = over_wards c.args.opened c.settings-settings.result c.into_wards-wards.result.items c.settings-settings.ensures c.into_wards-wards.ensures.wards c.into_wards-wards.ensures.each

pub returns-clause-file : goal.returns-clause-file
returns-clause-file g c = over_file c.args.opened c.settings-settings.result c.into_wards-wards.result.items c.settings-settings.ensures c.into_wards-wards.ensures.wards

pub returns-clause-loading : goal.returns-clause-loading
returns-clause-loading g c = over_loading c.args.opened c.settings-settings.result c.into_wards-wards.result.items c.settings-settings.ensures c.into_wards-wards.ensures.wards c.into_wards-wards.ensures.each c.in_ok-directories.directories.items
    (subst (λ wards. AreEach (IsDirectoryAt c.settings-settings.result.ward_bits wards) (length wards) c.in_ok-directories.directories.items) c.deref.ensures.value c.in_ok-directories.ensures)
