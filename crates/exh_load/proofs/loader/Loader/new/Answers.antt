use Rattle.exh_load.proofs.FreshWards.{fresh_loading, fresh_maps, fresh_wards}
use Rattle.exh_load.proofs.loader.Loader.new.Goals as goal

pub invariant_of-result : goal.invariant_of-result
invariant_of-result g c = fresh_wards c.args.settings c.in_ok-wards.wards.items c.in_ok-directories.directories.items c.in_ok-wards.ensures.wards c.requires.some c.requires.most c.requires.bits

pub returns-clause-loading : goal.returns-clause-loading
returns-clause-loading g c = fresh_loading c.args.settings c.in_ok-wards.wards.items c.in_ok-directories.directories.items c.in_ok-wards.ensures.wards c.in_ok-directories.ensures

pub returns-clause-none : goal.returns-clause-none
returns-clause-none g c = fresh_maps c.args.settings c.in_ok-wards.wards.items c.in_ok-directories.directories.items c.in_ok-wards.ensures.wards
